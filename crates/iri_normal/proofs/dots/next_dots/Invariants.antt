use Rattle.iri_normal.proofs.Common.{◌≡◌, ◌<◌, ◌≤◌, ◌+◌, ◌-◌, ℕ, false, drop, length, before, is_dot_segment, slash_and_dots}
use Rattle.iri_normal.proofs.dots.next_dots.Given as goal

-- no dot segment begins before this place
abbrev pub invariant-places : goal.invariant-places
invariant-places l = record {
  low : 1 ≤ l.i;
  prefix : is_dot_segment (before 47 l.path) ≡ false;
  none : (k : ℕ) → k + 1 < l.i → slash_and_dots (drop k l.path) ≡ false;
}

abbrev pub decreases-places : goal.decreases-places
decreases-places l = length l.path - l.i
