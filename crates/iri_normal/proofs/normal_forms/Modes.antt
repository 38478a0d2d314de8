-- Parts in a mode fit, and stay texts of their kind; the preserving form is stable.
use Rattle.iri_normal.proofs.Common.{◌≡◌, ℕ, Bool, true, false, cond, not, ◌||◌, List, [], ◌∷◌, Option, Some, None, refl, sym, ◌∙◌, ap}
use Rattle.iri_normal.proofs.Common.{subst, IsSome, is_some, Tests, IsSpec, is_path, is_query, is_fragment, iri-law, absolute-law, Parts}
use Rattle.iri_normal.proofs.Common.{Fits, path_rules, recompose, starts_with_slash, starts_with_slashes, iri_fault, absolute_fault}
use Rattle.iri_normal.proofs.Common.{pct-path, normal_authority, pct-stable, pct, CanonMode, Default, Scheme, path-whole, query-whole}
use Rattle.iri_normal.proofs.Common.{fragment-whole, dots, guard, is_normalizing, mode_of, lowered, form, normal_path, preserved_path}
use Rattle.iri_normal.proofs.Common.{part_in, Mode, Plain, Normal, Preserving, ByScheme, option_map}
use Rattle.iri_grammar.proofs.splits.SplitUnique.{one_split}
use Rattle.iri_normal.proofs.normal_forms.PartsFit.{normal_in-fits, parts-fit, scheme-stable, authorities-stable, triplets-stable}
use Rattle.iri_normal.proofs.normal_forms.Paths.{path-over, path-rules, path-stable, plain-over, plain-rules, pct-unrooted, normal-rooted}
use Rattle.iri_normal.proofs.normal_forms.SchemeRules.{form-is}
use Rattle.std.specs.Prelude.{IsNone}

-- ---- the preserved path
preserved-over : (s : Tests) (a : Option (List ℕ)) (p : List ℕ) → IsSpec s → is_path s p ≡ true → is_path s (preserved_path s a p) ≡ true
preserved-over s a p k h =
    elim (is_some a || starts_with_slash p) as (λ b. is_path s (cond b (normal_path s a p) (pct s p)) ≡ true) [
      | true ↦ path-over s a p k h
      | false ↦ pct-path s p k h
    ]

preserved-rules : (s : Tests) (x y : List ℕ) (a : Option (List ℕ)) (p : List ℕ) → IsSpec s → is_path s p ≡ true
    → path_rules (Some x) a p ≡ true → path_rules (Some y) (option_map (normal_authority s) a) (preserved_path s a p) ≡ true
preserved-rules s x y (Some z) p k w h = path-rules s (normal_authority s) x y (Some z) p h
preserved-rules s x y None p k w h =
    elim (starts_with_slash p) as (λ b. starts_with_slash p ≡ b
    → not (starts_with_slashes (cond b (normal_path s None p) (pct s p))) ≡ true) [
      | true ↦ λ _. path-rules s (normal_authority s) x y None p h
      | false ↦ λ e. no-slashes (pct s p) (pct-unrooted s p k (path-whole s p k w) e)
    ] refl
  where
    no-slashes : (q : List ℕ) → starts_with_slash q ≡ false → not (starts_with_slashes q) ≡ true
    no-slashes [] e = refl
    no-slashes (q ∷ qs) e = rw e refl

-- ---- parts in a mode fit
preserving-fits : (s : Tests) (whole : Bool) (t : Parts) → IsSpec s → Fits s t → IsSome t.scheme
    → Fits s (form s Preserving whole t) × IsSome (form s Preserving whole t).scheme
unfolding form
preserving-fits s whole t k f i =
    let n = parts-fit s None t k f i in (
      record {
        scheme = n.0.scheme;
        authority = n.0.authority;
        path = preserved-over s t.authority t.path k f.path;
        query = n.0.query;
        fragment = n.0.fragment;
        rules = rules t.scheme i f.rules;
      },
      n.1,
    )
  where
    rules : (o : Option (List ℕ)) → IsSome o → path_rules o t.authority t.path ≡ true
        → path_rules (option_map lowered o) (option_map (normal_authority s) t.authority) (preserved_path s t.authority t.path) ≡ true
    rules None j h = cc
    rules (Some x) j h = preserved-rules s x (lowered x) t.authority t.path k f.path h

-- parts as they stand, where the path is taken whole
pub whole-plain : (s : Tests) (t : Parts) → form s Plain true t ≡ t
unfolding form
whole-plain s t = refl

plain-fits : (s : Tests) (whole : Bool) (t : Parts) → IsSpec s → Fits s t → IsSome t.scheme
    → Fits s (form s Plain whole t) × IsSome (form s Plain whole t).scheme
unfolding form
plain-fits s true t k f i = (f, i)
plain-fits s false t k f i = (
  record {
    scheme = f.scheme;
    authority = f.authority;
    path = plain-over s t.authority t.path f.path;
    query = f.query;
    fragment = f.fragment;
    rules = rules t.scheme i f.rules;
  },
  i,
)
  where
    rules : (o : Option (List ℕ)) → IsSome o → path_rules o t.authority t.path ≡ true
        → path_rules o t.authority (guard (dots t.path) (is_some t.authority)) ≡ true
    rules None j h = cc
    rules (Some x) j h = plain-rules x t.authority t.path h

normal-fits : (s : Tests) (m : CanonMode) (whole : Bool) (t : Parts) → IsSpec s → Fits s t → IsSome t.scheme
    → Fits s (form s (mode_of m) whole t) × IsSome (form s (mode_of m) whole t).scheme
normal-fits s m whole t k f i =
    subst (λ (p : Parts). Fits s p × IsSome p.scheme) (sym (form-is s m whole t)) (normal_in-fits s m t k f i)

pub mode-fits : (s : Tests) (mode : Mode) (whole : Bool) (t : Parts) → IsSpec s → Fits s t → IsSome t.scheme
    → Fits s (form s mode whole t) × IsSome (form s mode whole t).scheme
mode-fits s Plain whole t k f i = plain-fits s whole t k f i
mode-fits s Normal whole t k f i = normal-fits s Default whole t k f i
mode-fits s Preserving whole t k f i = preserving-fits s whole t k f i
mode-fits s ByScheme whole t k f i = normal-fits s Scheme whole t k f i

-- ---- they stay texts of their kind
pub iri-stays : (s : Tests) → IsSpec s → (mode : Mode) (whole : Bool) (t : Parts) → Fits s t → iri_fault s (recompose t) ≡ None
    → iri_fault s (recompose (form s mode whole t)) ≡ None
iri-stays s k mode whole t f h =
    let r = (iri-law s k (recompose t)).0 h in
    let same = one_split s k (recompose t) r.0 t r.1 (record { fits = f; text = refl }) in
    let n = mode-fits s mode whole t k f (subst (λ (p : Parts). IsSome p.scheme) same r.2) in
    (iri-law s k (recompose (form s mode whole t))).1 (form s mode whole t, record { fits = n.0; text = refl }, n.1)

no-part : (normal : Bool) (f : List ℕ → List ℕ) (o : Option (List ℕ)) → IsNone o → IsNone (part_in normal f o)
no-part true f None h = h
no-part false f None h = h
no-part normal f (Some x) h = absurd (cc h)

no-fragment : (s : Tests) (mode : Mode) (whole : Bool) (t : Parts) → IsNone t.fragment → IsNone (form s mode whole t).fragment
unfolding form
no-fragment s mode whole t h = no-part (is_normalizing mode) (pct s) t.fragment h

pub absolute-stays : (s : Tests) → IsSpec s → (mode : Mode) (whole : Bool) (t : Parts) → Fits s t → absolute_fault s (recompose t) ≡ None
    → absolute_fault s (recompose (form s mode whole t)) ≡ None
absolute-stays s k mode whole t f h =
    let r = (absolute-law s k (recompose t)).0 h in
    let same = one_split s k (recompose t) r.0 t r.1 (record { fits = f; text = refl }) in
    let n = mode-fits s mode whole t k f (subst (λ (p : Parts). IsSome p.scheme) same r.2) in
    let e = no-fragment s mode whole t (subst (λ (p : Parts). IsNone p.fragment) same r.3) in
    (absolute-law s k (recompose (form s mode whole t))).1 (form s mode whole t, record { fits = n.0; text = refl }, n.1, e)

-- ---- the preserving form is stable
preserved-stable : (s : Tests) (a : Option (List ℕ)) (p : List ℕ) → IsSpec s → is_path s p ≡ true
    → preserved_path s (option_map (normal_authority s) a) (preserved_path s a p) ≡ preserved_path s a p
preserved-stable s (Some z) p k h = path-stable s (normal_authority s) (Some z) p k h
preserved-stable s None p k h =
    elim (starts_with_slash p) as (λ b. starts_with_slash p ≡ b
    → preserved_path s None (cond b (normal_path s None p) (pct s p)) ≡ cond b (normal_path s None p) (pct s p)) [
      | true ↦ λ e. ap (λ b. cond b (normal_path s None (normal_path s None p)) (pct s (normal_path s None p))) (normal-rooted s p e)
          ∙ path-stable s (normal_authority s) None p k h
      | false ↦ λ e. ap (λ b. cond b (normal_path s None (pct s p)) (pct s (pct s p))) (pct-unrooted s p k (path-whole s p k h) e)
          ∙ pct-stable s p k (path-whole s p k h)
    ] refl

pub preserving-stable : (s : Tests) (whole again : Bool) (t : Parts) → IsSpec s → Fits s t
    → form s Preserving again (form s Preserving whole t) ≡ form s Preserving whole t
unfolding form
preserving-stable s whole again t k f =
    rw (
      scheme-stable t.scheme,
      authorities-stable s t.authority k f.authority,
      preserved-stable s t.authority t.path k f.path,
      triplets-stable s (is_query s) t.query k (λ x h. query-whole s x k h) f.query,
      triplets-stable s (is_fragment s) t.fragment k (λ x h. fragment-whole s x k h) f.fragment,
    )
    refl
