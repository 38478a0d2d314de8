-- Where a byte of a text stands among its triplets, told by the bytes before it.
use Rattle.iri_resolve.proofs.Common.{◌≡◌, ℕ, zero, suc, ◌-◌, ◌≤◌, true, false, cond, not, ◌&&◌, ◌||◌, List, [], ◌∷◌, length, refl, ◌∙◌, ap}
use Rattle.iri_resolve.proofs.Common.{arith, ◌==◌, take, slice_index, both, whole_triplets, is_in_triplet}
use Rattle.std.proofs.lemmas.Bool.{le-leb}
use Rattle.iri_percent.specs.Units.{two_digits}
use Rattle.iri_resolve.specs.inside.LookBack.{percent_before}

step_back : (n i x : ℕ) (xs : List ℕ) → n ≤ i → (slice_index (x ∷ xs) (suc i - n) == 37) ≡ (slice_index xs (i - n) == 37)
step_back n i x xs h = let e : suc i - n ≡ suc (i - n) = omega arith in ap (λ k. slice_index (x ∷ xs) k == 37) e

back : (n i x : ℕ) (xs : List ℕ) → n ≤ i → percent_before n (suc i) (x ∷ xs) ≡ percent_before n i xs
back n i x xs h = rw (le-leb n i h, le-leb n (suc i) (omega arith)) (step_back n i x xs h)

-- in a text with whole triplets, the two bytes before tell it
pub looked-back : (i : ℕ) (t : List ℕ) → whole_triplets t ≡ true → i ≤ length t
    → is_in_triplet i t ≡ (percent_before 1 i t || percent_before 2 i t)
unfolding whole_triplets
looked-back zero t w l = refl
looked-back (suc i) [] w l = absurd (omega arith)
looked-back (suc zero) (x ∷ xs) w l = elim (x == 37) as (λ b. not (cond b false true && true) ≡ (b || false)) [ true ↦ refl | false ↦ refl ]
looked-back (suc (suc i)) (x ∷ []) w l = absurd (omega arith)
looked-back (suc (suc zero)) (x ∷ y ∷ xs) w l =
    elim (x == 37) as (λ a. not (cond a false true && (cond (y == 37) false true && true)) ≡ ((y == 37) || a)) [
      | true ↦ elim (y == 37) as (λ b. true ≡ (b || true)) [ true ↦ refl | false ↦ refl ]
      | false ↦ elim (y == 37) as (λ b. not (cond b false true && true) ≡ (b || false)) [ true ↦ refl | false ↦ refl ]
    ]
looked-back (suc (suc (suc i))) (x ∷ y ∷ []) w l = absurd (omega arith)
looked-back (suc (suc (suc i))) (x ∷ y ∷ z ∷ xs) w l =
    let k = both (cond (x == 37) (two_digits (y ∷ z ∷ xs)) true) (whole_triplets (y ∷ z ∷ xs)) w in
    let rest = looked-back (suc (suc i)) (y ∷ z ∷ xs) k.1 (omega arith) in
    ap (λ b. not (b && whole_triplets (y ∷ z ∷ take i xs))) k.0 ∙ rest
    ∙ rw (back 1 (suc (suc i)) x (y ∷ z ∷ xs) (omega arith), back 2 (suc (suc i)) x (y ∷ z ∷ xs) (omega arith)) refl
