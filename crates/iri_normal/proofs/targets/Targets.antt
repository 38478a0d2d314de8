-- The target of a reference against parts with a scheme fits and has a scheme.
use Rattle.iri_normal.proofs.Common.{◌≡◌, ℕ, Bool, true, false, cond, not, ◌&&◌, List, [], ◌∷◌, ◌++◌, Option, Some, None, refl, sym, ap}
use Rattle.iri_normal.proofs.Common.{◌∙◌, arith, append_assoc, subst, ◌==◌, is_some, IsSome, and-false, or-true, not-true, Tests, path_char}
use Rattle.iri_normal.proofs.Common.{is_ascii_path, is_ascii_pchar, is_ascii_reg_name, is_ascii_unreserved, is_sub_delim, text_over}
use Rattle.iri_normal.proofs.Common.{if_there, is_path, is_query, lacks, before, both, Parts, Fits, path_rules, is_empty, starts_with_slash}
use Rattle.iri_normal.proofs.Common.{starts_with_slashes, target, target_under, target_path, merge_prefix, to_last_slash, last_segment}
use Rattle.iri_normal.proofs.Common.{ends_at_slash, text_over-append, nothing_over}
use Rattle.iri_normal.proofs.Common.{has_dot_segment, or_parts}
use Rattle.iri_normal.proofs.segments.CutPaths.{dot_in_two}
use Rattle.iri_normal.proofs.segments.DotKinds.{nothing-is_no_dot}
use Rattle.iri_normal.proofs.segments.Slashes.{end_slash, at_last_slash, ends, no_slashes}
use Rattle.iri_normal.proofs.targets.CutTexts.{text_over-cut, slash_over}
use Rattle.iri_normal.specs.Target.{or_base, merged}

-- ---- a path cut at its last slash
pub parts_over : (p : ℕ → Bool) (f l : List ℕ) → ends_at_slash f ≡ true → text_over p (f ++ l) ≡ true
    → (text_over p f ≡ true) × (text_over p l ≡ true)
parts_over p [] l h k = (nothing_over p, k)
parts_over p (x ∷ xs) l h k =
    let e = end_slash (x ∷ xs) h (omega arith) in
    let whole : x ∷ (xs ++ l) ≡ e.prefix ++ 47 ∷ l = ap (λ f. f ++ l) e.whole ∙ append_assoc e.prefix (47 ∷ []) l in
    let c = text_over-cut p e.prefix l (subst (λ z. text_over p z ≡ true) whole k) in
    (subst (λ z. text_over p z ≡ true) (sym e.whole) (text_over-append p e.prefix (47 ∷ []) c.left c.slash), c.right)

pub cut_over : (p : ℕ → Bool) (path : List ℕ) → text_over p path ≡ true
    → (text_over p (to_last_slash path) ≡ true) × (text_over p (last_segment path) ≡ true)
cut_over p path h = parts_over p (to_last_slash path) (last_segment path) (ends path)
    (subst (λ z. text_over p z ≡ true) (sym (at_last_slash path).0) h)

-- what relative paths are put after has no dot segment and no percent sign, where the base's path has none
pub merge-plain : (b : Parts) → has_dot_segment b.path ≡ false → has_dot_segment (merge_prefix b) ≡ false
merge-plain b h =
    elim (is_some b.authority && is_empty b.path) as (λ v. has_dot_segment (cond v (47 ∷ []) (to_last_slash b.path)) ≡ false) [
      | true ↦ rw nothing-is_no_dot refl
      | false ↦ (or_parts (has_dot_segment (to_last_slash b.path)) (has_dot_segment (last_segment b.path))
          (sym (dot_in_two (to_last_slash b.path) (last_segment b.path) (ends b.path)) ∙ (ap has_dot_segment (at_last_slash b.path).0 ∙ h))).0
    ]

lacks-first : (c : ℕ) (xs ys : List ℕ) → lacks c (xs ++ ys) ≡ true → lacks c xs ≡ true
lacks-first c [] ys h = refl
lacks-first c (x ∷ xs) ys h = let k = both (not (x == c)) (lacks c (xs ++ ys)) h in rw (k.0, lacks-first c xs ys k.1) refl

pub merge-bare : (b : Parts) → lacks 37 b.path ≡ true → lacks 37 (merge_prefix b) ≡ true
merge-bare b h =
    elim (is_some b.authority && is_empty b.path) as (λ v. lacks 37 (cond v (47 ∷ []) (to_last_slash b.path)) ≡ true) [
      | true ↦ refl
      | false ↦ lacks-first 37 (to_last_slash b.path) (last_segment b.path) (ap (lacks 37) (at_last_slash b.path).0 ∙ h)
    ]

merged-over : (p : ℕ → Bool) (base : Parts) (path : List ℕ) → p 47 ≡ true → text_over p base.path ≡ true → text_over p path ≡ true
    → text_over p (merged base path) ≡ true
merged-over p base path s h k =
    elim (starts_with_slash path) as (λ b. text_over p (cond b path (merge_prefix base ++ path)) ≡ true) [
      | true ↦ k
      | false ↦ text_over-append p (merge_prefix base) path
          (elim (is_some base.authority && is_empty base.path) as (λ b. text_over p (cond b (47 ∷ []) (to_last_slash base.path))
          ≡ true) [ true ↦ slash_over p s | false ↦ (cut_over p base.path h).0 ]) k
    ]

-- ---- the rules of a merged path
-- where no `//` begins the base's path, none begins what is merged with it
apart : (path rest : List ℕ) → starts_with_slashes path ≡ false → starts_with_slash rest ≡ false
    → starts_with_slashes (to_last_slash path ++ rest) ≡ false
apart [] rest h k = no_slashes rest k
apart (x ∷ []) rest h k =
    elim (x == 47) as (λ b. starts_with_slashes (cond (not b && true) [] (x ∷ []) ++ rest) ≡ false) [
      | true ↦ rw k (and-false (x == 47))
      | false ↦ no_slashes rest k
    ]
apart (x ∷ y ∷ ys) rest h k =
    elim (not (x == 47) && (not (y == 47) && lacks 47 ys)) as (λ a. starts_with_slashes
    (cond a [] (x ∷ cond (not (y == 47) && lacks 47 ys) [] (y ∷ to_last_slash ys)) ++ rest) ≡ false) [
      | true ↦ no_slashes rest k
      | false ↦ elim (not (y == 47) && lacks 47 ys) as (λ b. starts_with_slashes ((x ∷ cond b [] (y ∷ to_last_slash ys)) ++ rest)
          ≡ false) [ true ↦ rw k (and-false (x == 47)) | false ↦ h ]
    ]

abbrev merged_path : Option (List ℕ) → List ℕ → List ℕ → List ℕ
merged_path authority base path = cond (starts_with_slash path) path
    (cond (is_some authority && is_empty base) (47 ∷ []) (to_last_slash base) ++ path)

merged-rules : (scheme : List ℕ) (authority : Option (List ℕ)) (base path : List ℕ) → path_rules (Some scheme) authority base ≡ true
    → path_rules None None path ≡ true → path_rules (Some scheme) authority (merged_path authority base path) ≡ true
merged-rules scheme (Some a) [] path h k =
    elim (starts_with_slash path) as (λ b. starts_with_slash path ≡ b
    → path_rules (Some scheme) (Some a) (cond b path (47 ∷ path)) ≡ true) [
      | true ↦ λ e. rw e (or-true (is_empty path))
      | false ↦ λ _. refl
    ] refl
merged-rules scheme (Some a) (y ∷ ys) path h k =
    elim (starts_with_slash path) as (λ b. starts_with_slash path ≡ b
    → path_rules (Some scheme) (Some a) (cond b path (to_last_slash (y ∷ ys) ++ path))
    ≡ true) [ true ↦ λ e. rw e (or-true (is_empty path)) | false ↦ λ _. rw h h ] refl
merged-rules scheme None base path h k =
    elim (starts_with_slash path) as (λ b. starts_with_slash path ≡ b
    → path_rules (Some scheme) None (cond b path (to_last_slash base ++ path)) ≡ true) [
      | true ↦ λ _. (both (not (starts_with_slashes path)) (lacks 58 (before 47 path)) k).0
      | false ↦ λ e. rw (apart base path (not-true (starts_with_slashes base) h) e) refl
    ] refl

-- ---- the parts of a target
pub slash_in_path : (s : Tests) → path_char s 47 ≡ true
unfolding path_char is_ascii_path is_ascii_pchar is_ascii_reg_name is_ascii_unreserved is_sub_delim
slash_in_path s = refl

path-fits : (s : Tests) (base : Parts) (path : List ℕ) → is_path s base.path ≡ true → is_path s path ≡ true
    → is_path s (target_path base path) ≡ true
path-fits s base [] h k = h
path-fits s base (x ∷ xs) h k = merged-over (path_char s) base (x ∷ xs) (slash_in_path s) h k

query-fits : (s : Tests) (e : Bool) (q base : Option (List ℕ)) → if_there (is_query s) q ≡ true → if_there (is_query s) base ≡ true
    → if_there (is_query s) (cond e (or_base q base) q) ≡ true
query-fits s true None base h k = k
query-fits s true (Some x) base h k = h
query-fits s false q base h k = h

rules-fit : (scheme : Option (List ℕ)) (base : Parts) (path : List ℕ) → IsSome scheme → path_rules scheme base.authority base.path ≡ true
    → path_rules None None path ≡ true → path_rules scheme base.authority (target_path base path) ≡ true
rules-fit None base path i h k = cc
rules-fit (Some scheme) base [] i h k = h
rules-fit (Some scheme) base (x ∷ xs) i h k = merged-rules scheme base.authority base.path (x ∷ xs) h k

abbrev FitsWithScheme : Tests → Parts → Type 0
FitsWithScheme s t = Fits s t × IsSome t.scheme

target_under-fits : (s : Tests) (base r : Parts) (scheme authority : Option (List ℕ)) → r.scheme ≡ scheme → r.authority ≡ authority
    → Fits s base → IsSome base.scheme → Fits s r → FitsWithScheme s (target_under base r scheme authority)
target_under-fits s base r (Some x) authority es ea fb hb fr = (fr, rw es refl)
target_under-fits s base r None (Some a) es ea fb hb fr =
    let rules = rw (es, ea) at fr.rules in
    let there = rw ea at fr.authority in
    (record { scheme = fb.scheme; authority = there; path = fr.path; query = fr.query; fragment = fr.fragment; rules = rules }, hb)
target_under-fits s base r None None es ea fb hb fr =
    let rules = rw (es, ea) at fr.rules in (
      record {
        scheme = fb.scheme;
        authority = fb.authority;
        path = path-fits s base r.path fb.path fr.path;
        query = query-fits s (is_empty r.path) r.query base.query fr.query fb.query;
        fragment = fr.fragment;
        rules = rules-fit base.scheme base r.path hb fb.rules rules;
      },
      hb,
    )

pub target-fits : (s : Tests) (base r : Parts) → Fits s base → IsSome base.scheme → Fits s r
    → Fits s (target base r) × IsSome (target base r).scheme
unfolding target
target-fits s base r fb hb fr = target_under-fits s base r r.scheme r.authority refl refl fb hb fr
