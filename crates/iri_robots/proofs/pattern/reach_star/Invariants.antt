use Rattle.std.proofs.Common.{◌≤◌, length}
use Rattle.iri_robots.specs.inside.Fits.{MovesOn}
use Rattle.iri_robots.proofs.pattern.reach_star.Given as goal

abbrev pub invariant-loop-pattern : goal.invariant-loop-pattern
invariant-loop-pattern l = record {
  moves : MovesOn l.anchored l.initial.pattern l.initial.text l.pattern l.text;
  shorter : length l.pattern ≤ length l.initial.pattern;
  within : length l.text ≤ length l.initial.text;
}

abbrev pub decreases-loop-pattern : goal.decreases-loop-pattern
decreases-loop-pattern l = length l.pattern
