-- How many bytes a form, a target and a canonical text have at most.
use Rattle.iri_normal.proofs.Common.{option_map, ◌≡◌, ℕ, ◌+◌, ◌≤◌, Bool, true, false, cond, ◌&&◌, ◌||◌, not, List, [], ◌∷◌, ◌++◌, Option}
use Rattle.iri_normal.proofs.Common.{Some, None, length, map, refl, sym, ap, subst, arith, length-append, is_some, to_ascii_uppercase}
use Rattle.iri_normal.proofs.Common.{to_ascii_lowercase, encode_utf8, length-map, Tests, IsSpec, unreserved, path_char, if_there}
use Rattle.iri_normal.proofs.Common.{is_userinfo, is_path, is_query, is_fragment, lacks, delimited, AuthorityParts, recompose_authority}
use Rattle.iri_normal.proofs.Common.{authority_parts, is_authority, Parts, Fits, IsReference, IsAbsolute, recompose, scheme_text}
use Rattle.iri_normal.proofs.Common.{authority_text, is_empty, starts_with_slash, starts_with_slashes, pieces, split_is, whole_triplets}
use Rattle.iri_normal.proofs.Common.{normal, as_it_is, pct, is_ascii_host, is_dropped, normal_host, normal_userinfo, normal_port_in}
use Rattle.iri_normal.proofs.Common.{normal_authority_parts_in, normal_authority, normal_authority_in, dropped_port, CanonMode, Scheme}
use Rattle.iri_normal.proofs.Common.{authority_in, normal_nil, normal_plain, normal_lone, normal_char, Reading, done, plain, char, lone}
use Rattle.iri_normal.proofs.Common.{read, lowered, is_dot_segment, is_two_dots, without_last, dots, target, target_under, target_path}
use Rattle.iri_normal.proofs.Common.{merge_prefix, to_last_slash, becomes_slash, canonical_in, canonical_parts_in, form, normal_path}
use Rattle.iri_normal.proofs.Common.{preserved_path, slash_or, Mode, Plain, Normal, Preserving, ByScheme, userinfo-whole, host-whole}
use Rattle.iri_normal.proofs.Common.{path-whole, query-whole, fragment-whole}
use Rattle.iri_grammar.proofs.authorities.AuthorityLaws.{authority_recomposed}
use Rattle.iri_grammar.specs.Authority.{FitsAuthority, userinfo_text}
use Rattle.iri_normal.proofs.canonical_texts.CanonicalTexts.{canonical_in-text}
use Rattle.iri_normal.proofs.removal.Output.{closed_text, text_after, text_from, dots-text}
use Rattle.iri_normal.proofs.normal_forms.Paths.{dots-over}
use Rattle.iri_normal.proofs.normal_forms.SchemeRules.{normal-is, normal_parts}
use Rattle.iri_normal.proofs.removal.Stability.{slashed, unsplit, unsplit-pieces}
use Rattle.iri_normal.proofs.targets.Targets.{target-fits, slash_in_path}
use Rattle.iri_normal.specs.NormalForm.{parts_with, plain_path}
use Rattle.iri_normal.specs.Target.{or_base, target_query, merged}
use Rattle.iri_percent.proofs.mapping.Productions.{authority-reads as reads}
use Rattle.iri_percent.proofs.units.AtStart.{length-spelled}

-- ---- triplets
length-read : (s : Tests) (f : ℕ → ℕ) (t : List ℕ) → Reading t → length (normal s f t) ≤ length t
length-read s f t done = rw (normal_nil s f) (omega arith)
length-read s f t (plain x xs h r) = let l = length-read s f xs r in rw (normal_plain s f x xs h) (omega arith)
length-read s f t (lone a b xs p q n r) = let l = length-read s f xs r in rw (normal_lone s f a b xs p q n) (omega arith)
length-read s f t (char c sp xs h sps r) =
    let l = length-read s f xs r in
    let size = length-spelled sp (encode_utf8 c) sps in
    let a = length-append sp xs in
    rw (normal_char s f c sp xs h sps) (elim (unreserved s c) as (λ b. length
    (cond b (map f (encode_utf8 c)) (map to_ascii_uppercase sp) ++ normal s f xs) ≤ length (sp ++ xs)) [
      | true ↦ omega (arith, length-append (map f (encode_utf8 c)) (normal s f xs), length-map (encode_utf8 c) f)
      | false ↦ omega (arith, length-append (map to_ascii_uppercase sp) (normal s f xs), length-map sp to_ascii_uppercase)
    ])

length-pct : (s : Tests) (t : List ℕ) → whole_triplets t ≡ true → length (pct s t) ≤ length t
length-pct s t w = length-read s as_it_is t (read t w)

length-host : (s : Tests) (h : List ℕ) → whole_triplets h ≡ true → length (normal_host s h) ≤ length h
unfolding normal_host
length-host s h w =
    elim (is_ascii_host h) as (λ b. length (cond b (normal s to_ascii_lowercase h) (pct s h))
    ≤ length h) [ true ↦ length-read s to_ascii_lowercase h (read h w) | false ↦ length-pct s h w ]

-- ---- an authority
length-userinfo : (s : Tests) (o : Option (List ℕ)) → IsSpec s → if_there (is_userinfo s) o ≡ true
    → length (userinfo_text (normal_userinfo s o)) ≤ length (userinfo_text o)
length-userinfo s None k h = omega arith
length-userinfo s (Some u) k h =
    let l = length-pct s u (userinfo-whole s u k h) in omega (arith, length-append (pct s u) (64 ∷ []), length-append u (64 ∷ []))

length-port : (d o : Option (List ℕ)) → length (delimited 58 (normal_port_in d o)) ≤ length (delimited 58 o)
length-port d None = omega arith
length-port d (Some []) = omega arith
length-port d (Some (x ∷ xs)) = elim (is_dropped d (x ∷ xs)) as (λ b. length (delimited 58 (cond b None (Some (x ∷ xs))))
    ≤ length (delimited 58 (Some (x ∷ xs)))) [ true ↦ omega arith | false ↦ omega arith ]

length-authority_parts : (s : Tests) (d : Option (List ℕ)) (a : AuthorityParts) → IsSpec s → FitsAuthority s a
    → length (recompose_authority (normal_authority_parts_in s d a)) ≤ length (recompose_authority a)
unfolding recompose_authority
length-authority_parts s d a k f =
    let u = length-userinfo s a.userinfo k f.userinfo in
    let h = length-host s a.host (host-whole s a.host k f.host) in
    let p = length-port d a.port in
    let left = sum (userinfo_text (normal_userinfo s a.userinfo)) (normal_host s a.host) (delimited 58 (normal_port_in d a.port)) in
    let right = sum (userinfo_text a.userinfo) a.host (delimited 58 a.port) in
    omega arith
  where
    sum : (xs ys zs : List ℕ) → length (xs ++ (ys ++ zs)) ≡ length xs + (length ys + length zs)
    sum xs ys zs = omega (arith, length-append xs (ys ++ zs), length-append ys zs)

length-authority : (s : Tests) (d : Option (List ℕ)) (t : List ℕ) → IsSpec s → is_authority s t ≡ true
    → length (normal_authority_in s d t) ≤ length t
length-authority s d t k h = subst (λ z. length z ≤ length t) (authority_in s d t (authority_parts t) refl)
    (subst (λ z. length (recompose_authority (normal_authority_parts_in s d (authority_parts t))) ≤ length z)
    (authority_recomposed t) (length-authority_parts s d (authority_parts t) k (reads s t k h)))

-- ---- a path
pub length-last : (xs : List ℕ) → length (without_last xs) ≤ length xs
length-last [] = omega arith
length-last (x ∷ xs) = let l = length-last xs in elim
    (lacks 47 xs) as (λ b. length (cond b [] (x ∷ without_last xs)) ≤ length (x ∷ xs)) [ true ↦ omega arith | false ↦ omega arith ]

length-left : (two : Bool) (o : List ℕ) → length (cond two (without_last o) o) ≤ length o
length-left true o = length-last o
length-left false o = omega arith

length-closed : (ss : List (List ℕ)) (o : List ℕ) → length (closed_text ss o) ≤ length o + 1
length-closed [] o = omega (arith, length-append o (47 ∷ []))
length-closed (s ∷ ss) o = omega arith

length-after : (o : List ℕ) (ss : List (List ℕ)) → length (text_after o ss) ≤ length o + length (slashed ss)
length-after o [] = omega arith
length-after o (s ∷ ss) =
    let left = length-left (is_two_dots s) o in
    let shut = length-closed ss (cond (is_two_dots s) (without_last o) o) in
    let one = length-after (closed_text ss (cond (is_two_dots s) (without_last o) o)) ss in
    let two = length-after (o ++ 47 ∷ s) ss in
    let all = length-append s (slashed ss) in
    elim (is_dot_segment s) as (λ b. length (cond b (text_after (closed_text ss (cond (is_two_dots s) (without_last o) o)) ss)
    (text_after (o ++ 47 ∷ s) ss)) ≤ length o + length (slashed (s ∷ ss))) [
      | true ↦ omega arith
      | false ↦ omega (arith, length-append o (47 ∷ s))
    ]

length-unsplit : (ss : List (List ℕ)) → length (unsplit ss) ≤ length (slashed ss)
length-unsplit [] = omega arith
length-unsplit (s ∷ ss) = omega arith

length-from : (o : List ℕ) (ss : List (List ℕ)) → length (text_from o ss) ≤ length o + length (unsplit ss)
length-from o [] = omega arith
length-from o (s ∷ ss) =
    let one = length-from o ss in
    let less = length-unsplit ss in
    let two = length-after (o ++ s) ss in
    let all = length-append s (slashed ss) in
    elim (is_dot_segment s) as (λ b. length (cond b (text_from o ss) (text_after (o ++ s) ss))
    ≤ length o + length (unsplit (s ∷ ss))) [ true ↦ omega arith | false ↦ omega (arith, length-append o s) ]

pub length-dots : (p : List ℕ) → length (dots p) ≤ length p
length-dots p =
    subst (λ z. length z ≤ length p) (dots-text p)
    (subst (λ z. length (text_from [] (pieces 47 p)) ≤ length z) (unsplit-pieces p)
    (let l = length-from [] (pieces 47 p) in omega arith))

length-path : (s : Tests) (a : Option (List ℕ)) (p : List ℕ) → IsSpec s → is_path s p ≡ true → length (normal_path s a p) ≤ length p + 2
unfolding normal_path
length-path s a p k h =
    let l = length-dots p in
    let m = length-pct s (dots p) (path-whole s (dots p) k (dots-over (path_char s) p (slash_in_path s) h)) in
    elim (is_some a || not (starts_with_slashes (pct s (dots p)))) as (λ b. length (cond b (pct s (dots p)) (47 ∷ 46 ∷ pct s (dots p)))
    ≤ length p + 2) [ true ↦ omega arith | false ↦ omega arith ]

-- ---- the parts
pub length-parts : (p : Parts) → length (recompose p) ≡ length (scheme_text p.scheme)
    + (length (authority_text p.authority) + (length p.path + (length (delimited 63 p.query) + length (delimited 35 p.fragment))))
unfolding recompose
length-parts p =
    let q = delimited 63 p.query ++ delimited 35 p.fragment in
    omega (
      arith,
      length-append (scheme_text p.scheme) (authority_text p.authority ++ (p.path ++ q)),
      length-append (authority_text p.authority) (p.path ++ q),
      length-append p.path q,
      length-append (delimited 63 p.query) (delimited 35 p.fragment),
    )

pub length-scheme : (o : Option (List ℕ)) → length (scheme_text (option_map lowered o)) ≤ length (scheme_text o)
length-scheme None = omega arith
length-scheme (Some x) = omega (arith, length-append (lowered x) (58 ∷ []), length-append x (58 ∷ []), length-map x to_ascii_lowercase)

length-authorities_in : (s : Tests) (d o : Option (List ℕ)) → IsSpec s → if_there (is_authority s) o ≡ true
    → length (authority_text (option_map (normal_authority_in s d) o)) ≤ length (authority_text o)
length-authorities_in s d None k h = omega arith
length-authorities_in s d (Some x) k h = let l = length-authority s d x k h in omega arith

pub length-authorities : (s : Tests) (o : Option (List ℕ)) → IsSpec s → if_there (is_authority s) o ≡ true
    → length (authority_text (option_map (normal_authority s) o)) ≤ length (authority_text o)
length-authorities s o k h = length-authorities_in s None o k h

length-query : (s : Tests) (o : Option (List ℕ)) → IsSpec s → if_there (is_query s) o ≡ true
    → length (delimited 63 (option_map (pct s) o)) ≤ length (delimited 63 o)
length-query s None k h = omega arith
length-query s (Some x) k h = let l = length-pct s x (query-whole s x k h) in omega arith

length-fragment : (s : Tests) (o : Option (List ℕ)) → IsSpec s → if_there (is_fragment s) o ≡ true
    → length (delimited 35 (option_map (pct s) o)) ≤ length (delimited 35 o)
length-fragment s None k h = omega arith
length-fragment s (Some x) k h = let l = length-pct s x (fragment-whole s x k h) in omega arith

length-slashed : (b : Bool) (p path : List ℕ) → length path ≤ length p + 2 → length (slash_or b path) ≤ length p + 2
length-slashed true p path h = omega arith
length-slashed false p path h = h

length-with : (s : Tests) (d : Option (List ℕ)) (path : List ℕ) (t : Parts) → IsSpec s → Fits s t → length path ≤ length t.path + 2
    → length (recompose (parts_with s true d path t)) ≤ length (recompose t) + 2
length-with s d path t k f h =
    let a = length-scheme t.scheme in
    let b = length-authorities_in s d t.authority k f.authority in
    let c = length-slashed (becomes_slash d t.authority t.path) t.path path h in
    let q = length-query s t.query k f.query in
    let e = length-fragment s t.fragment k f.fragment in
    let left = length-parts (parts_with s true d path t) in
    let right = length-parts t in
    omega arith

length-normal : (s : Tests) (d : Option (List ℕ)) (t : Parts) → IsSpec s → Fits s t
    → length (recompose (normal_parts s d t)) ≤ length (recompose t) + 2
length-normal s d t k f = length-with s d (normal_path s t.authority t.path) t k f (length-path s t.authority t.path k f.path)

-- ---- the forms
length-preserved : (s : Tests) (a : Option (List ℕ)) (p : List ℕ) → IsSpec s → is_path s p ≡ true
    → length (preserved_path s a p) ≤ length p + 2
length-preserved s a p k h =
    let l = length-pct s p (path-whole s p k h) in
    let n = length-path s a p k h in
    elim (is_some a || starts_with_slash p) as (λ b. length (cond b (normal_path s a p) (pct s p)) ≤ length p + 2)
    [ true ↦ n | false ↦ omega arith ]

length-plain : (whole : Bool) (a : Option (List ℕ)) (p : List ℕ) → length (plain_path whole a p) ≤ length p + 2
length-plain true a p = omega arith
length-plain false a p =
    let l = length-dots p in
    elim (is_some a || not (starts_with_slashes (dots p))) as (λ b. length (cond b (dots p) (47 ∷ 46 ∷ dots p)) ≤ length p + 2)
    [ true ↦ omega arith | false ↦ omega arith ]

pub length-plain_form : (s : Tests) (whole : Bool) (t : Parts) → length (recompose (form s Plain whole t)) ≤ length (recompose t) + 2
unfolding form
length-plain_form s whole t =
    let path = plain_path whole t.authority t.path in
    let l = length-plain whole t.authority t.path in
    let left = length-parts (parts_with s false None path t) in
    let right = length-parts t in
    omega arith

pub length-form : (s : Tests) (mode : Mode) (whole : Bool) (t : Parts) → IsSpec s → Fits s t
    → length (recompose (form s mode whole t)) ≤ length (recompose t) + 2
unfolding form
length-form s Plain whole t k f = length-plain_form s whole t
length-form s Normal whole t k f = length-normal s None t k f
length-form s Preserving whole t k f =
    length-with s None (preserved_path s t.authority t.path) t k f (length-preserved s t.authority t.path k f.path)
length-form s ByScheme whole t k f = length-normal s (dropped_port Scheme t.scheme) t k f

-- ---- the target
length-to_last_slash : (xs : List ℕ) → length (to_last_slash xs) ≤ length xs
length-to_last_slash [] = omega arith
length-to_last_slash (x ∷ xs) =
    let l = length-to_last_slash xs in elim (lacks 47 (x ∷ xs)) as (λ b. length (cond b [] (x ∷ to_last_slash xs))
    ≤ length (x ∷ xs)) [ true ↦ omega arith | false ↦ omega arith ]

length-prefix : (base : Parts) → length (merge_prefix base) ≤ length base.path + 1
length-prefix base =
    let l = length-to_last_slash base.path in
    elim (is_some base.authority && is_empty base.path) as (λ b. length (cond b (47 ∷ []) (to_last_slash base.path))
    ≤ length base.path + 1) [ true ↦ omega arith | false ↦ omega arith ]

length-merged : (base : Parts) (path : List ℕ) → length (merged base path) ≤ length base.path + length path + 1
length-merged base path =
    let l = length-prefix base in
    elim (starts_with_slash path) as (λ b. length (cond b path (merge_prefix base ++ path))
    ≤ length base.path + length path + 1) [ true ↦ omega arith | false ↦ omega (arith, length-append (merge_prefix base) path) ]

length-target_path : (base : Parts) (path : List ℕ) → length (target_path base path) ≤ length base.path + length path + 1
length-target_path base [] = omega arith
length-target_path base (x ∷ xs) = length-merged base (x ∷ xs)

length-target_query : (base r : Parts) → length (delimited 63 (target_query base r))
    ≤ length (delimited 63 base.query) + length (delimited 63 r.query)
length-target_query base r = at (is_empty r.path) r.query base.query
  where
    at : (e : Bool) (q o : Option (List ℕ)) → length (delimited 63 (cond e (or_base q o) q)) ≤ length (delimited 63 o) + length (delimited 63 q)
    at true None o = omega arith
    at true (Some x) o = omega arith
    at false q o = omega arith

length-target_under : (base r : Parts) (scheme authority : Option (List ℕ)) → r.authority ≡ authority
    → length (recompose (target_under base r scheme authority)) ≤ length (recompose base) + length (recompose r) + 1
length-target_under base r (Some x) authority e = omega arith
length-target_under base r None (Some a) e =
    let left = length-parts (target_under base r None (Some a)) in
    let b = length-parts base in
    let q = length-parts r in
    let same : length (authority_text r.authority) ≡ length (authority_text (Some a)) = ap (λ o. length (authority_text o)) e in
    omega arith
length-target_under base r None None e =
    let left = length-parts (target_under base r None None) in
    let b = length-parts base in
    let q = length-parts r in
    let path = length-target_path base r.path in
    let query = length-target_query base r in
    omega arith

pub length-target : (base r : Parts) → length (recompose (target base r)) ≤ length (recompose base) + length (recompose r) + 1
unfolding target
length-target base r = length-target_under base r r.scheme r.authority refl

-- ---- the whole
pub length-canonical_in : (s : Tests) (m : CanonMode) (base reference : List ℕ) → IsSpec s → IsAbsolute s base → IsReference s reference
    → length (canonical_in s m base reference) ≤ length base + length reference + 3
length-canonical_in s m base reference k b r =
    let eb = split_is s base b.0 k b.1 in
    let er = split_is s reference r.0 k r.1 in
    let t = target-fits s b.0 r.0 b.1.fits b.2 r.1.fits in
    let form = subst (λ (p : Parts). length (recompose p) ≤ length (recompose (target b.0 r.0)) + 2)
    (sym (normal-is s m (target b.0 r.0))) (length-normal s (dropped_port m (target b.0 r.0).scheme) (target b.0 r.0) k t.0) in
    let whole = length-target b.0 r.0 in
    let lb : length (recompose b.0) ≡ length base = ap length b.1.text in
    let lr : length (recompose r.0) ≡ length reference = ap length r.1.text in
    let parts : length (recompose (canonical_parts_in s m base reference)) ≤ length base + length reference + 3 =
    rw (eb, er) (omega arith) in
    subst (λ z. length z ≤ length base + length reference + 3) (canonical_in-text s m base reference) parts
