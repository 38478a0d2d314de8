use Rattle.iri_grammar.proofs.Common.{◌≡◌, ◌<◌, ◌≤◌, ◌+◌, ◌-◌, ℕ, false, drop, length, slash_and_dot}
use Rattle.iri_grammar.proofs.dots.has_dots_in_long.Given as goal

-- none begins before this place
abbrev pub invariant-places : goal.invariant-places
invariant-places l = record {
  low : 1 ≤ l.i;
  last : l.last ≡ length l.path - 16;
  none : (k : ℕ) → k + 1 < l.i → slash_and_dot (drop k l.path) ≡ false;
}

abbrev pub decreases-places : goal.decreases-places
decreases-places l = l.last - l.i
