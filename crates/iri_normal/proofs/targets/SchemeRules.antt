-- What scheme rules leave as it is: an authority without a default port, and a path that isn't empty.
use Rattle.iri_normal.proofs.Common.{◌≡◌, ℕ, Bool, true, false, cond, ◌&&◌, List, [], ◌∷◌, ◌++◌, Option, Some, None, refl, sym, ◌∙◌, ap, subst}
use Rattle.iri_normal.proofs.Common.{◌+◌, ◌-◌, suc, length, append_assoc, length-append, arith, nat_tests, nat_lt, bytes_eq, recompose_authority}
use Rattle.iri_normal.proofs.Common.{or_parts, authority_parts, Tests, Parts, is_empty, normal_authority, normal_authority_in, normal_port_in}
use Rattle.iri_normal.proofs.Common.{normal_authority_parts_in, dropped_port, default_port, option_map, starts_with_slash, Scheme, target}
use Rattle.iri_normal.proofs.Common.{split_of, form, normal_form, canonical, canonical_in, becomes_slash, delimited, recompose, target_path}
use Rattle.iri_normal.proofs.Common.{merge_prefix}
use Rattle.std.specs.Prelude.{codes, get_or}
use Rattle.std.specs.Str.{str_eq_ignore_ascii_case}
use Rattle.std.proofs.Math.Seq.{get_or-append_seam}
use Rattle.std.proofs.lemmas.Slice.Eq.{bytes_eq-Decides}
use Rattle.iri_grammar.specs.Authority.{userinfo_text}
use Rattle.iri_grammar.proofs.authorities.AuthorityLaws.{authority_recomposed}
use Rattle.iri_percent.specs.SchemeRules.{is_either}
unfoldable use Rattle.iri_percent.specs.NormalHost.{authority_without}
unfoldable use Rattle.iri_normal.specs.inside.SchemeRules.{colon_before_end}
use Rattle.iri_normal.specs.inside.SchemeRules.{StaysByScheme, ends_in_port}
use Rattle.iri_normal.specs.declared.mode.Mode.TheVariants.{ByScheme}

-- ---- the port
colon-stands : (text digits : List ℕ) → colon_before_end (suc (length digits)) (text ++ 58 ∷ digits) ≡ true
unfolding colon_before_end
colon-stands text digits =
    let long : length (text ++ 58 ∷ digits) ≡ length text + suc (length digits) = length-append text (58 ∷ digits) in
    let low : nat_lt (length (text ++ 58 ∷ digits)) (suc (length digits)) ≡ false = grind (arith, nat_tests) in
    let at : length (text ++ 58 ∷ digits) - suc (length digits) ≡ length text = omega (arith, long) in
    let there = ap (λ i. get_or (text ++ 58 ∷ digits) i 0) at ∙ get_or-append_seam text 58 digits 0 in
    rw (low, there) refl

-- a port that no colon before the end leads to isn't the authority's
port-other : (d text port : List ℕ) → colon_before_end (suc (length d)) (text ++ 58 ∷ port) ≡ false → bytes_eq port d ≡ false
port-other d text port h =
    elim (bytes_eq port d) as (λ b. bytes_eq port d ≡ b → b ≡ false) [
      | true ↦ λ e.
          let same = ap (λ p. colon_before_end (suc (length d)) (text ++ 58 ∷ p)) ((bytes_eq-Decides port d).0 e) in
          sym (colon-stands text d) ∙ (sym same ∙ h)
      | false ↦ λ e. refl
    ] refl

-- the text of an authority ends in its port
port-ends : (a port : List ℕ) → (authority_parts a).port ≡ Some port
    → (userinfo_text (authority_parts a).userinfo ++ (authority_parts a).host) ++ 58 ∷ port ≡ a
unfolding recompose_authority
port-ends a port e =
    let p = authority_parts a in
    append_assoc (userinfo_text p.userinfo) p.host (58 ∷ port)
    ∙ (ap (λ o. userinfo_text p.userinfo ++ (p.host ++ delimited 58 o)) (sym e) ∙ authority_recomposed a)

port-same : (d : List ℕ) (o : Option (List ℕ)) → ((p : List ℕ) → o ≡ Some p → bytes_eq p d ≡ false) → normal_port_in (Some d) o ≡ normal_port_in None o
port-same d None h = refl
port-same d (Some []) h = refl
port-same d (Some (x ∷ xs)) h = rw (h (x ∷ xs) refl) refl

kept : (s : Tests) (a d : List ℕ) → colon_before_end (suc (length d)) a ≡ false → normal_authority_in s (Some d) a ≡ normal_authority s a
unfolding normal_authority authority_without
kept s a d h =
    let p = authority_parts a in
    ap (λ o. recompose_authority (record (normal_authority_parts_in s None p) { port = o }))
    (port-same d p.port (λ port e. port-other d (userinfo_text p.userinfo ++ p.host) port
    (ap (colon_before_end (suc (length d))) (port-ends a port e) ∙ h)))

-- ---- the port that scheme rules drop has two or three digits
one_port : (P : Option (List ℕ) → Type 0) (b c d : Bool) → P (Some (codes "80")) → P (Some (codes "443")) → P (Some (codes "21")) → P None
    → P (cond b (Some (codes "80")) (cond c (Some (codes "443")) (cond d (Some (codes "21")) None)))
one_port P true c d x y z n = x
one_port P false true d x y z n = y
one_port P false false true x y z n = z
one_port P false false false x y z n = n

keeps-port : (s : Tests) (scheme : Option (List ℕ)) (a : List ℕ) → ends_in_port (Some a) ≡ false
    → normal_authority_in s (dropped_port Scheme scheme) a ≡ normal_authority s a
unfolding default_port
keeps-port s None a h = refl
keeps-port s (Some x) a h =
    let two = or_parts (colon_before_end 3 a) (colon_before_end 4 a) h in
    one_port (λ o. normal_authority_in s o a ≡ normal_authority s a) (is_either x (codes "http") (codes "ws"))
    (is_either x (codes "https") (codes "wss")) (str_eq_ignore_ascii_case x (codes "ftp")) (kept s a (codes "80") two.0) (kept s a (codes "443") two.1)
    (kept s a (codes "21") two.0) refl

authority-stays : (s : Tests) (scheme o : Option (List ℕ)) → ends_in_port o ≡ false
    → option_map (normal_authority_in s (dropped_port Scheme scheme)) o ≡ option_map (normal_authority s) o
authority-stays s scheme None h = refl
authority-stays s scheme (Some a) h = ap Some (keeps-port s scheme a h)

no-slash : (d o : Option (List ℕ)) (p : List ℕ) → is_empty p ≡ false → becomes_slash d o p ≡ false
no-slash None o p h = refl
no-slash (Some x) None p h = refl
no-slash (Some x) (Some a) p h = h

-- ---- the canonical text
form-stays : (s : Tests) (t : Parts) → StaysByScheme t → form s ByScheme false t ≡ normal_form s t
unfolding form normal_form
form-stays s t h = rw (authority-stays s t.scheme t.authority h.0, no-slash (dropped_port Scheme t.scheme) t.authority t.path h.1) refl

pub canonical-stays : (s : Tests) (b r : List ℕ) → StaysByScheme (target (split_of b) (split_of r)) → canonical_in s Scheme b r ≡ canonical s b r
unfolding canonical
canonical-stays s b r h = ap recompose (form-stays s (target (split_of b) (split_of r)) h)

-- ---- targets
pub own-stays : (b r : Parts) (x : List ℕ) → r.scheme ≡ Some x → ends_in_port r.authority ≡ false → is_empty r.path ≡ false
    → StaysByScheme (target b r)
unfolding target
own-stays b r x e a p = let same : target b r ≡ r = rw e refl in subst StaysByScheme (sym same) (a, p)

-- one with an authority and no scheme
pub hosted-stays : (b r : Parts) (a : List ℕ) → r.scheme ≡ None → r.authority ≡ Some a → ends_in_port (Some a) ≡ false
    → is_empty r.path ≡ false → StaysByScheme (target b r)
unfolding target
hosted-stays b r a h k e p = (rw (h, k) e, rw (h, k) p)

after-some : (m p : List ℕ) → is_empty p ≡ false → is_empty (m ++ p) ≡ false
after-some [] p h = h
after-some (x ∷ xs) p h = refl

path-some : (b : Parts) (p : List ℕ) → (is_empty p && is_empty b.path) ≡ false → is_empty (target_path b p) ≡ false
path-some b [] h = h
path-some b (x ∷ xs) h = elim (starts_with_slash (x ∷ xs)) as (λ r. is_empty (cond r (x ∷ xs) (merge_prefix b ++ x ∷ xs)) ≡ false) [
  | true ↦ refl
  | false ↦ after-some (merge_prefix b) (x ∷ xs) refl
]

pub path-stays : (b r : Parts) → r.scheme ≡ None → r.authority ≡ None → ends_in_port b.authority ≡ false
    → (is_empty r.path && is_empty b.path) ≡ false → StaysByScheme (target b r)
unfolding target
path-stays b r h k a p = (rw (h, k) a, rw (h, k) (path-some b r.path p))
