-- What rules that drop a port change: a normal form loses the port, and its empty path becomes a slash.
use Rattle.iri_normal.proofs.Common.{◌≡◌, ℕ, Bool, true, false, cond, ◌||◌, List, [], ◌∷◌, Option, Some, None, refl, sym, ◌∙◌, ap}
use Rattle.iri_normal.proofs.Common.{to_ascii_lowercase, bytes_eq, Tests, IsSpec, if_there, authority_parts, is_authority}
use Rattle.iri_normal.proofs.Common.{recompose_authority, AuthorityParts, Parts, Fits, path_rules, is_empty, starts_with_slash, as_it_is}
use Rattle.iri_normal.proofs.Common.{pct, is_dropped, normal_authority, normal_authority_in, normal_port_in, default_port, dropped_port}
use Rattle.iri_normal.proofs.Common.{CanonMode, Default, Scheme, authority_in, normal_nil, lower-case, dots, lowered, mode_of}
use Rattle.iri_normal.proofs.Common.{becomes_slash, form, normal_form, normal_form_in, normal_path, slash_or, option_map}
use Rattle.iri_normal.proofs.normal_forms.Authorities.{normal-parts}
use Rattle.iri_normal.proofs.normal_forms.Paths.{dots-nothing, dots-slash, pct-slash}
use Rattle.iri_normal.specs.NormalForm.{parts_with}
use Rattle.iri_percent.specs.NormalHost.{normal_authority_parts, normal_port}
use Rattle.std.specs.Prelude.{codes}
use Rattle.std.specs.Str.{str_eq_ignore_ascii_case, str_to_ascii_lowercase}

-- parts in normal form by rules that drop this port; the rules of every scheme drop none
abbrev pub normal_parts : Tests → Option (List ℕ) → Parts → Parts
normal_parts s dropped t = parts_with s true dropped (normal_path s t.authority t.path) t

-- a normal form by the port that its mode drops
pub normal-is : (s : Tests) (m : CanonMode) (t : Parts) → normal_form_in s m t ≡ normal_parts s (dropped_port m t.scheme) t
unfolding normal_form form
normal-is s Default t = refl
normal-is s Scheme t = refl

-- it doesn't look at whether the path is the base's, taken whole
pub form-is : (s : Tests) (m : CanonMode) (whole : Bool) (t : Parts) → form s (mode_of m) whole t ≡ normal_form_in s m t
unfolding normal_form form
form-is s Default whole t = refl
form-is s Scheme whole t = refl

-- ---- parts that may stand
pub there-fits : (p q : List ℕ → Bool) (f : List ℕ → List ℕ) (o : Option (List ℕ)) → ((x : List ℕ) → p x ≡ true → q (f x) ≡ true)
    → if_there p o ≡ true → if_there q (option_map f o) ≡ true
there-fits p q f None go h = refl
there-fits p q f (Some x) go h = go x h

pub there-one : (p : List ℕ → Bool) (f g a : List ℕ → List ℕ) (o : Option (List ℕ)) → ((x : List ℕ) → p x ≡ true → f (g x) ≡ a x)
    → if_there p o ≡ true → option_map f (option_map g o) ≡ option_map a o
there-one p f g a None go h = refl
there-one p f g a (Some x) go h = ap Some (go x h)

pub there-both : (p : List ℕ → Bool) (f g a b : List ℕ → List ℕ) (o : Option (List ℕ)) → ((x : List ℕ) → p x ≡ true → f (g x) ≡ a (b x))
    → if_there p o ≡ true → option_map f (option_map g o) ≡ option_map a (option_map b o)
there-both p f g a b None go h = refl
there-both p f g a b (Some x) go h = ap Some (go x h)

-- ---- the default port is told by the scheme in lower case
pub lowered-twice : (xs : List ℕ) → lowered (lowered xs) ≡ lowered xs
lowered-twice [] = refl
lowered-twice (x ∷ xs) = ap (λ y. y ∷ lowered (lowered xs)) (lower-case.twice x) ∙ ap (λ ys. to_ascii_lowercase x ∷ ys) (lowered-twice xs)

same-name : (x y : List ℕ) → str_eq_ignore_ascii_case (lowered x) y ≡ str_eq_ignore_ascii_case x y
same-name x y = ap (λ z. bytes_eq z (str_to_ascii_lowercase y)) (lowered-twice x)

default-lowered : (x : List ℕ) → default_port (lowered x) ≡ default_port x
unfolding default_port
default-lowered x = rw (
  same-name x (codes "http"),
  same-name x (codes "ws"),
  same-name x (codes "https"),
  same-name x (codes "wss"),
  same-name x (codes "ftp"),
) refl

pub dropped-lowered : (o : Option (List ℕ)) → dropped_port Scheme (option_map lowered o) ≡ dropped_port Scheme o
dropped-lowered None = refl
dropped-lowered (Some x) = default-lowered x

pub dropped-still : (m : CanonMode) (o : Option (List ℕ)) → dropped_port m (option_map lowered o) ≡ dropped_port m o
dropped-still Default o = refl
dropped-still Scheme o = dropped-lowered o

-- ---- a path beside an authority is empty exactly where its normal form is
pub begun : (q : List ℕ) → starts_with_slash q ≡ true → is_empty q ≡ false
begun [] h = cc
begun (x ∷ xs) h = refl

pub normal-empty : (s : Tests) (z p : List ℕ) → (is_empty p || starts_with_slash p) ≡ true
    → is_empty (normal_path s (Some z) p) ≡ is_empty p
unfolding normal_path
normal-empty s z [] h = rw (dots-nothing, normal_nil s as_it_is) refl
normal-empty s z (x ∷ xs) h = begun (pct s (dots (x ∷ xs))) (pct-slash s (dots (x ∷ xs)) (dots-slash (x ∷ xs) h))

pub slash-normal : (s : Tests) (f : List ℕ → List ℕ) (o d a : Option (List ℕ)) (p : List ℕ) → path_rules o a p ≡ true
    → becomes_slash d (option_map f a) (normal_path s a p) ≡ becomes_slash d a p
slash-normal s f o None a p h = refl
slash-normal s f o (Some d) None p h = refl
slash-normal s f o (Some d) (Some z) p h = normal-empty s z p h

-- ---- an authority in normal form loses the port
abbrev pub kept_port : List ℕ → Option (List ℕ) → Option (List ℕ)
kept_port d None = None
kept_port d (Some p) = cond (is_dropped (Some d) p) None (Some p)

abbrev pub with_kept_port : List ℕ → AuthorityParts → List ℕ
with_kept_port d p = recompose_authority (record p { port = kept_port d p.port })

abbrev pub without : Option (List ℕ) → List ℕ → List ℕ
without None a = a
without (Some d) a = with_kept_port d (authority_parts a)

port-kept : (d : List ℕ) (o : Option (List ℕ)) → kept_port d (normal_port o) ≡ normal_port_in (Some d) o
port-kept d None = refl
port-kept d (Some []) = refl
port-kept d (Some (x ∷ xs)) = refl

pub without-normal : (s : Tests) (d : Option (List ℕ)) (t : List ℕ) → IsSpec s → is_authority s t ≡ true
    → without d (normal_authority s t) ≡ normal_authority_in s d t
without-normal s None t k h = refl
without-normal s (Some d) t k h =
    let p = authority_parts t in
    ap (with_kept_port d) (normal-parts s None t k h)
    ∙ (ap (λ o. recompose_authority (record (normal_authority_parts s p) { port = o })) (port-kept d p.port)
    ∙ authority_in s (Some d) t p refl)

-- ---- the normal form of a mode is told by that of the rules of every scheme
abbrev pub by_rules : Option (List ℕ) → Parts → Parts
by_rules d p = record p {
  authority = option_map (without d) p.authority;
  path = slash_or (becomes_slash d p.authority p.path) p.path;
}

abbrev pub by_mode : CanonMode → Parts → Parts
by_mode m p = by_rules (dropped_port m p.scheme) p

parts-by_rules : (s : Tests) (d : Option (List ℕ)) (t : Parts) → IsSpec s → Fits s t → by_rules d (normal_parts s None t) ≡ normal_parts s d t
parts-by_rules s d t k f =
    rw (
      there-one (is_authority s) (without d) (normal_authority s) (normal_authority_in s d) t.authority (λ x h. without-normal s d x k h) f.authority,
      slash-normal s (normal_authority s) t.scheme d t.authority t.path f.rules,
    )
    refl

pub form-by_mode : (s : Tests) (m : CanonMode) (t : Parts) → IsSpec s → Fits s t → by_mode m (normal_form s t) ≡ normal_form_in s m t
form-by_mode s m t k f =
    ap (by_mode m) (normal-is s Default t) ∙ ap (λ d. by_rules d (normal_parts s None t)) (dropped-still m t.scheme)
    ∙ parts-by_rules s (dropped_port m t.scheme) t k f ∙ sym (normal-is s m t)

-- so parts with one normal form have one in each mode
pub one-form : (s : Tests) (m : CanonMode) (t u : Parts) → IsSpec s → Fits s t → Fits s u → normal_form s t ≡ normal_form s u
    → normal_form_in s m t ≡ normal_form_in s m u
one-form s m t u k f g e = sym (form-by_mode s m t k f) ∙ (ap (by_mode m) e ∙ form-by_mode s m u k g)
