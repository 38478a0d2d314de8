use Rattle.iri_register.proofs.Common.{◌≡◌, ◌≤◌, ◌<◌, ◌+◌, ℕ, length, get_or}
use Rattle.iri_register.proofs.moves.raise.Given as goal

abbrev pub invariant-loop-place : goal.invariant-loop-place
invariant-loop-place l = (length l.counts ≡ length l.initial.counts)
    × ((k : ℕ) → k < l.fn.from → get_or l.counts k 0 ≡ get_or l.initial.counts k 0)
    × ((k : ℕ) → l.fn.from ≤ k → k < l.place → get_or l.counts k 0 ≡ get_or l.initial.counts k 0 + 1)
    × ((k : ℕ) → l.place ≤ k → get_or l.counts k 0 ≡ get_or l.initial.counts k 0)
