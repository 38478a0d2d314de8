-- Texts written in a mode.
use Rattle.iri_normal.proofs.Common.{◌≡◌, ℕ, Bool, List, Option, None, refl, sym, ◌∙◌, ap, subst, ∥∥₁_elim, props, IsSome, Tests, IsSpec}
use Rattle.iri_normal.proofs.Common.{iri-law, Fits, recompose, split_of, recompose_split, split_is, reference_fault, iri_fault, CanonMode}
use Rattle.iri_normal.proofs.Common.{canonical_in, mode_of, slices, target}
use Rattle.iri_grammar.proofs.faults.FaultLaws.{no_fault_where_splits, splits_where_no_fault}
use Rattle.iri_grammar.specs.declared.error.ErrorKind.{ErrorKind}
use Rattle.iri_normal.proofs.canonical_texts.CanonicalTexts.{written-canonical as targets-canonical}
use Rattle.iri_normal.specs.Normalized.{AreSound, Written, written_text}
use Rattle.iri_normal.specs.declared.target.TargetSlices.{TargetSlices}

-- ---- what sound slices are
pub sound-fits : (s : Tests) (fault : Tests → List ℕ → Option ErrorKind) (t : TargetSlices) → IsSpec s → ∥ AreSound s fault t ∥₁
    → Fits s (slices t)
sound-fits s fault t k h =
    let x = recompose (slices t) in
    let none : reference_fault s x ≡ None = ∥∥₁_elim h (hlevel props)
    (λ a. no_fault_where_splits s k x (slices t) (record { fits = a.fits; text = refl })) in
    let same : split_of x ≡ slices t = ∥∥₁_elim h (hlevel props) (λ a. split_is s x (slices t) k (record { fits = a.fits; text = refl })) in
    subst (Fits s) same (splits_where_no_fault s x none).fits

pub sound-valid : (s : Tests) (fault : Tests → List ℕ → Option ErrorKind) (t : TargetSlices) → ∥ AreSound s fault t ∥₁
    → fault s (recompose (slices t)) ≡ None
sound-valid s fault t h = ∥∥₁_elim h (hlevel props) (λ a. a.valid)

-- ---- how they come to be
pub target-sound : (s : Tests) (t : TargetSlices) → IsSpec s → Fits s (slices t) → IsSome (slices t).scheme
    → ∥ AreSound s iri_fault t ∥₁
target-sound s t k f i =
    ∣ record { fits = f; valid = (iri-law s k (recompose (slices t))).1 (slices t, record { fits = f; text = refl }, i) } ∣₁

pub view-sound : (s : Tests) (fault : Tests → List ℕ → Option ErrorKind) (t : TargetSlices) (x : List ℕ) → slices t ≡ split_of x
    → Fits s (slices t) → fault s x ≡ None → ∥ AreSound s fault t ∥₁
view-sound s fault t x e f h =
    let whole : recompose (slices t) ≡ x = ap recompose e ∙ recompose_split x in
    ∣ record { fits = f; valid = subst (λ y. fault s y ≡ None) (sym whole) h } ∣₁

-- ---- the canonical text
abbrev pub made-normal_in : CanonMode → Written → Written
made-normal_in m w = record w { mode = mode_of m }

pub written-canonical_in : (s : Tests) (m : CanonMode) (b r : List ℕ) (whole : Bool) (w : Written)
    → w ≡ record { parts = target (split_of b) (split_of r); whole = whole; mode = mode_of m } → written_text s w ≡ canonical_in s m b r
written-canonical_in s m b r whole w e = ap (written_text s) e ∙ targets-canonical s m whole b r
