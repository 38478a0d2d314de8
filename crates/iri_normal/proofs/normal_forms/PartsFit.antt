-- The normal form of parts fits and is stable, whatever port is dropped.
use Rattle.iri_normal.proofs.Common.{option_map, ◌≡◌, ℕ, true, false, List, [], ◌∷◌, Option, Some, None, refl, sym, ◌∙◌, ap, subst, arith}
use Rattle.iri_normal.proofs.Common.{Bool, IsSome, to_ascii_lowercase, list_all, nat_tests, Tests, IsSpec, path_char, if_there, is_scheme}
use Rattle.iri_normal.proofs.Common.{is_scheme_char, is_path, is_query, is_fragment, is_authority, both, Parts, Fits, path_rules, is_empty}
use Rattle.iri_normal.proofs.Common.{as_it_is, pct, normal_authority, normal_authority_in, dropped_port, CanonMode, Default, normal_nil}
use Rattle.iri_normal.proofs.Common.{normal_plain, pct-stable, query-whole, fragment-whole, whole_triplets, dots, is_dot_segment, lowered}
use Rattle.iri_normal.proofs.Common.{becomes_slash, normal_form, normal_form_in, normal_path, slash_or}
use Rattle.iri_grammar.proofs.hosts.LiteralChars.{all-weaken}
use Rattle.iri_grammar.specs.Components.{is_letter}
use Rattle.iri_normal.proofs.normal_forms.Authorities.{authority_in-fits, authority_in-stable}
use Rattle.iri_normal.proofs.normal_forms.Paths.{path-over, path-rules, path-stable}
use Rattle.iri_normal.proofs.normal_forms.SchemeRules.{dropped-still, lowered-twice, normal-empty, normal-is, there-fits, there-one}
use Rattle.iri_normal.proofs.normal_forms.SchemeRules.{normal_parts}
use Rattle.iri_normal.proofs.targets.Targets.{slash_in_path}
use Rattle.iri_normal.proofs.targets.CutTexts.{slash_over}
use Rattle.iri_percent.proofs.forms.Classes.{pct-query, pct-fragment}
use Rattle.std.proofs.lemmas.List.Folds.{list_all-map}

-- ---- the scheme
pub lower-letter : (c : ℕ) → is_letter c ≡ true → is_letter (to_ascii_lowercase c) ≡ true
unfolding is_letter
lower-letter c h = grind (arith, nat_tests)

pub lower-scheme_char : (c : ℕ) → is_scheme_char c ≡ true → is_scheme_char (to_ascii_lowercase c) ≡ true
unfolding is_scheme_char
lower-scheme_char c h = grind (arith, nat_tests)

pub lowered-chars : (xs : List ℕ) → list_all is_scheme_char xs ≡ true → list_all is_scheme_char (lowered xs) ≡ true
lowered-chars xs h = list_all-map is_scheme_char to_ascii_lowercase xs
    ∙ all-weaken is_scheme_char (λ x. is_scheme_char (to_ascii_lowercase x)) lower-scheme_char xs h

pub scheme-fits : (o : Option (List ℕ)) → if_there is_scheme o ≡ true → if_there is_scheme (option_map lowered o) ≡ true
scheme-fits None h = refl
scheme-fits (Some []) h = cc
scheme-fits (Some (x ∷ xs)) h = let k = both (is_letter x) (list_all is_scheme_char xs) h in rw (lower-letter x k.0) (lowered-chars xs k.1)

pub scheme-stable : (o : Option (List ℕ)) → option_map lowered (option_map lowered o) ≡ option_map lowered o
scheme-stable None = refl
scheme-stable (Some x) = ap Some (lowered-twice x)

-- ---- the path
abbrev slashed : Tests → Option (List ℕ) → Option (List ℕ) → List ℕ → List ℕ
slashed s d a p = slash_or (becomes_slash d a p) (normal_path s a p)

dots-of_slash : dots (47 ∷ []) ≡ 47 ∷ []
unfolding dots is_dot_segment
dots-of_slash = refl

pub normal-slash : (s : Tests) (z : List ℕ) → normal_path s (Some z) (47 ∷ []) ≡ 47 ∷ []
unfolding normal_path
normal-slash s z = ap (pct s) dots-of_slash ∙ (normal_plain s as_it_is 47 [] refl ∙ ap (λ l. 47 ∷ l) (normal_nil s as_it_is))

path-slashed : (s : Tests) (d a : Option (List ℕ)) (p : List ℕ) → IsSpec s → is_path s p ≡ true → is_path s (slashed s d a p) ≡ true
path-slashed s d a p k h = elim (becomes_slash d a p) as (λ b. is_path s (slash_or b (normal_path s a p)) ≡ true) [
  | true ↦ slash_over (path_char s) (slash_in_path s)
  | false ↦ path-over s a p k h
]

rules-slashed : (s : Tests) (f : List ℕ → List ℕ) (x y : List ℕ) (d a : Option (List ℕ)) (p : List ℕ) → path_rules (Some x) a p ≡ true
    → path_rules (Some y) (option_map f a) (slashed s d a p) ≡ true
rules-slashed s f x y None a p h = path-rules s f x y a p h
rules-slashed s f x y (Some d) None p h = path-rules s f x y None p h
rules-slashed s f x y (Some d) (Some z) p h = elim (is_empty p) as (λ b. path_rules (Some y) (Some (f z))
    (slash_or b (normal_path s (Some z) p)) ≡ true) [ true ↦ refl | false ↦ path-rules s f x y (Some z) p h ]

path-slashed-stable : (s : Tests) (f : List ℕ → List ℕ) (o d a : Option (List ℕ)) (p : List ℕ) → IsSpec s → is_path s p ≡ true
    → path_rules o a p ≡ true → slashed s d (option_map f a) (slashed s d a p) ≡ slashed s d a p
path-slashed-stable s f o None a p k h r = path-stable s f a p k h
path-slashed-stable s f o (Some d) None p k h r = path-stable s f None p k h
path-slashed-stable s f o (Some d) (Some z) [] k h r = normal-slash s (f z)
path-slashed-stable s f o (Some d) (Some z) (x ∷ xs) k h r =
    rw (normal-empty s z (x ∷ xs) r) (path-stable s f (Some z) (x ∷ xs) k h)

rules-fit : (s : Tests) (f : List ℕ → List ℕ) (d : Option (List ℕ)) (t : Parts) (o : Option (List ℕ)) → IsSome o
    → path_rules o t.authority t.path ≡ true
    → path_rules (option_map lowered o) (option_map f t.authority) (slashed s d t.authority t.path) ≡ true
rules-fit s f d t None i h = cc
rules-fit s f d t (Some x) i h = rules-slashed s f x (lowered x) d t.authority t.path h

still-there : (o : Option (List ℕ)) → IsSome o → IsSome (option_map lowered o)
still-there None h = h
still-there (Some x) h = refl

-- ---- the normal form, whatever port is dropped
pub parts-fit : (s : Tests) (d : Option (List ℕ)) (t : Parts) → IsSpec s → Fits s t → IsSome t.scheme
    → Fits s (normal_parts s d t) × IsSome (normal_parts s d t).scheme
parts-fit s d t k f i = (
  record {
    scheme = scheme-fits t.scheme f.scheme;
    authority = there-fits (is_authority s) (is_authority s) (normal_authority_in s d) t.authority (λ x h. authority_in-fits s d x k h) f.authority;
    path = path-slashed s d t.authority t.path k f.path;
    query = there-fits (is_query s) (is_query s) (pct s) t.query (λ x h. pct-query s x k h) f.query;
    fragment = there-fits (is_fragment s) (is_fragment s) (pct s) t.fragment (λ x h. pct-fragment s x k h) f.fragment;
    rules = rules-fit s (normal_authority_in s d) d t t.scheme i f.rules;
  },
  still-there t.scheme i,
)

-- what is in normal form stays
pub authorities_in-stable : (s : Tests) (d o : Option (List ℕ)) → IsSpec s → if_there (is_authority s) o ≡ true
    → option_map (normal_authority_in s d) (option_map (normal_authority_in s d) o) ≡ option_map (normal_authority_in s d) o
authorities_in-stable s d o k h =
    let f = normal_authority_in s d in there-one (is_authority s) f f f o (λ x e. authority_in-stable s d x k e) h

pub authorities-stable : (s : Tests) (o : Option (List ℕ)) → IsSpec s → if_there (is_authority s) o ≡ true
    → option_map (normal_authority s) (option_map (normal_authority s) o) ≡ option_map (normal_authority s) o
authorities-stable s o k h = authorities_in-stable s None o k h

pub triplets-stable : (s : Tests) (p : List ℕ → Bool) (o : Option (List ℕ)) → IsSpec s
    → ((x : List ℕ) → p x ≡ true → whole_triplets x ≡ true) → if_there p o ≡ true
    → option_map (pct s) (option_map (pct s) o) ≡ option_map (pct s) o
triplets-stable s p o k whole h = there-one p (pct s) (pct s) (pct s) o (λ x e. pct-stable s x k (whole x e)) h

parts-stable : (s : Tests) (d : Option (List ℕ)) (t : Parts) → IsSpec s → Fits s t → normal_parts s d (normal_parts s d t) ≡ normal_parts s d t
parts-stable s d t k f =
    rw (
      scheme-stable t.scheme,
      authorities_in-stable s d t.authority k f.authority,
      path-slashed-stable s (normal_authority_in s d) t.scheme d t.authority t.path k f.path f.rules,
      triplets-stable s (is_query s) t.query k (λ x h. query-whole s x k h) f.query,
      triplets-stable s (is_fragment s) t.fragment k (λ x h. fragment-whole s x k h) f.fragment,
    )
    refl

-- ---- in a mode
pub normal_in-fits : (s : Tests) (m : CanonMode) (t : Parts) → IsSpec s → Fits s t → IsSome t.scheme
    → Fits s (normal_form_in s m t) × IsSome (normal_form_in s m t).scheme
normal_in-fits s m t k f i =
    subst (λ (p : Parts). Fits s p × IsSome p.scheme) (sym (normal-is s m t)) (parts-fit s (dropped_port m t.scheme) t k f i)

pub normal_in-stable : (s : Tests) (m : CanonMode) (t : Parts) → IsSpec s → Fits s t
    → normal_form_in s m (normal_form_in s m t) ≡ normal_form_in s m t
normal_in-stable s m t k f =
    let d = dropped_port m t.scheme in
    let e = normal-is s m t in
    ap (normal_form_in s m) e ∙ normal-is s m (normal_parts s d t)
    ∙ ap (λ o. normal_parts s o (normal_parts s d t)) (dropped-still m t.scheme) ∙ parts-stable s d t k f ∙ sym e

pub form-fits : (s : Tests) (t : Parts) → IsSpec s → Fits s t → IsSome t.scheme → Fits s (normal_form s t) × IsSome (normal_form s t).scheme
form-fits s t k f i = normal_in-fits s Default t k f i
