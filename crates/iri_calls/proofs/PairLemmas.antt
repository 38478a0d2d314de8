-- The pairs of a list of texts.
use Rattle.std.proofs.Common.{◌≡◌, ◌+◌, ◌*◌, ◌/◌, ◌<◌, ◌≤◌, ℕ, zero, suc, List, [], ◌∷◌, length, get_or, drop, refl, ap, arith, ◌∙◌}
use Rattle.iri_template.proofs.VisitsEach.{next_at}
use Rattle.iri_calls.specs.Variables.{paired}
use Rattle.iri_calls.specs.declared.variables.Text.{Text}

-- what stands at an index past the end
abbrev no_text : Text
no_text = record { bytes = record { ref_ptr = (0, 0); now = [] } }

-- each pair takes two texts, and at most one is left
pub paired-length : (ts : List Text) → (2 * length (paired ts) ≤ length ts) × (length ts ≤ 2 * length (paired ts) + 1)
paired-length [] = (omega arith, omega arith)
paired-length (k ∷ []) = (omega arith, omega arith)
paired-length (k ∷ v ∷ ts) = let h = paired-length ts in (omega (arith, h.0), omega (arith, h.1))

paired-at : (ts : List Text) (i : ℕ) (d : Text × Text) (e : Text) → i < length (paired ts)
    → (get_or ts (2 * i) e, get_or ts (2 * i + 1) e) ≡ get_or (paired ts) i d
paired-at [] i d e h = absurd (omega (arith, h))
paired-at (k ∷ []) i d e h = absurd (omega (arith, h))
paired-at (k ∷ v ∷ ts) zero d e h = refl
paired-at (k ∷ v ∷ ts) (suc i) d e h =
    let low : i < length (paired ts) = omega (arith, h) in
    let one : 2 * suc i ≡ suc (suc (2 * i)) = omega arith in
    let two : 2 * suc i + 1 ≡ suc (suc (2 * i + 1)) = omega arith in
    ap (λ n. (get_or (k ∷ v ∷ ts) n e, get_or (k ∷ v ∷ ts) (2 * suc i + 1) e)) one
    ∙ ap (λ n. (get_or ts (2 * i) e, get_or (k ∷ v ∷ ts) n e)) two
    ∙ paired-at ts i d e low

paired-index : (ts : List Text) (i : ℕ) → i < length ts / 2 → i < length (paired ts)
paired-index ts i h = omega (arith, h, (paired-length ts).1)

-- the two texts of a pair
abbrev pub pair_at : List Text → ℕ → Text × Text
pair_at ts i = (get_or ts (2 * i) no_text, get_or ts (2 * i + 1) no_text)

pub next_pair : (ts : List Text) (i : ℕ) → i < length ts / 2 → drop i (paired ts) ≡ pair_at ts i ∷ drop (i + 1) (paired ts)
next_pair ts i h =
    let low = paired-index ts i h in
    next_at (paired ts) i (i + 1) (pair_at ts i) (no_text, no_text) refl low (paired-at ts i (no_text, no_text) no_text low)

-- as many pairs as half of the texts
pub paired-half : (ts : List Text) (i : ℕ) → length ts / 2 ≤ i → length (paired ts) ≤ i
paired-half ts i h = omega (arith, h, (paired-length ts).0)
