use Rattle.std.proofs.Common.{◌↔◌, true, ◌∷◌, length}
use Rattle.iri_robots.specs.inside.Fits.{Fits}
use Rattle.iri_robots.specs.inside.Ends.{HasNoStar}
use Rattle.iri_robots.proofs.pattern.fits_at_end.Given as goal

abbrev pub invariant-loop-pattern : goal.invariant-loop-pattern
invariant-loop-pattern l = record {
  fits : Fits true (42 ∷ l.initial.pattern) l.initial.text ↔ Fits true (42 ∷ l.pattern) l.text;
  no_star : HasNoStar l.pattern;
}

abbrev pub decreases-loop-pattern : goal.decreases-loop-pattern
decreases-loop-pattern l = length l.pattern
