-- A colon in the first segment of a reference.
use Rattle.iri_grammar.proofs.Common.{◌≡◌, ℕ, true, false, List, [], ◌∷◌, None, refl, sym, ap, ◌∙◌}
use Rattle.iri_grammar.proofs.Common.{drop, run_of, before, lacks, before_any, ends_authority, is_scheme_char, starts_with_slashes}
use Rattle.iri_grammar.proofs.Common.{hier_of, parts_of, colon_allowed}
use Rattle.iri_grammar.proofs.splits.CutLaws.{test_apart}
use Rattle.iri_grammar.proofs.splits.PartEnds.{by_delimiter, slashes-hier}
use Rattle.iri_grammar.proofs.splits.SplitLaws.{colon_ends, hash_ends, slash_ends}

question_ends : is_scheme_char 63 ≡ false
unfolding is_scheme_char
question_ends = refl

-- a byte of a scheme is no delimiter
goes_on : (x : ℕ) → is_scheme_char x ≡ true → ends_authority x ≡ false
goes_on x h =
    rw (test_apart is_scheme_char 47 x slash_ends h, test_apart is_scheme_char 63 x question_ends h, test_apart is_scheme_char 35 x hash_ends h)
    refl

-- the bytes of a scheme at the start have none
pub colon-past : (s : List ℕ) → lacks 58 (before_any ends_authority (drop (run_of is_scheme_char s) s)) ≡ lacks 58 (before_any ends_authority s)
colon-past [] = refl
colon-past (x ∷ xs) =
    elim (is_scheme_char x) as (λ b. is_scheme_char x ≡ b
    → lacks 58 (before_any ends_authority (drop (run_of is_scheme_char (x ∷ xs)) (x ∷ xs))) ≡ lacks 58 (before_any ends_authority (x ∷ xs))) [
      | true ↦ λ h. rw (h, goes_on x h, test_apart is_scheme_char 58 x colon_ends h) (colon-past xs)
      | false ↦ λ h. rw h refl
    ] refl

-- the path ends at the same delimiters
first-segment : (s : List ℕ) → before 47 (hier_of s) ≡ before_any ends_authority s
first-segment [] = refl
first-segment (x ∷ xs) = by_delimiter (λ n. before 47 (hier_of (n ∷ xs)) ≡ before_any ends_authority (n ∷ xs)) x refl refl refl
    (λ a b c. rw (c, b, a) (ap (λ ys. x ∷ ys) (first-segment xs)))

slashes-first : (s : List ℕ) → starts_with_slashes s ≡ true → lacks 58 (before_any ends_authority s) ≡ true
slashes-first [] h = cc
slashes-first (x ∷ xs) h = by_delimiter (λ n. starts_with_slashes (n ∷ xs) ≡ true → lacks 58 (before_any ends_authority (n ∷ xs)) ≡ true) x (λ _. refl)
    (λ _. refl) (λ _. refl) (λ a _ _. rw a cc) h

-- without a scheme
pub relative-colon : (s : List ℕ) → lacks 58 (before_any ends_authority s) ≡ colon_allowed (parts_of None s)
relative-colon s =
    elim (starts_with_slashes s) as (λ b. starts_with_slashes s ≡ b → lacks 58 (before_any ends_authority s) ≡ colon_allowed (parts_of None s)) [
      | true ↦ λ h. rw (slashes-hier s ∙ h) (slashes-first s h)
      | false ↦ λ h. rw (slashes-hier s ∙ h) (ap (lacks 58) (sym (first-segment s)))
    ] refl
