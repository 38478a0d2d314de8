use Rattle.std.proofs.Common.{ℕ, ◌/◌, ◌<◌, ◌≤◌, slice_index}
use Rattle.iri_robots.proofs.periods.shift_of.Given as goal

abbrev pub invariant-loop-i : goal.invariant-loop-i
invariant-loop-i l = (k : ℕ) → k < l.i → slice_index l.known.periods k ≤ l.filled / 3 → slice_index l.known.ends k < l.filled
