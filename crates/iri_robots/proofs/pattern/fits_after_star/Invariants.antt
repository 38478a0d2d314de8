use Rattle.iri_robots.proofs.Common.{◌↔◌, ◌+◌, ◌∷◌, length, Fits}
use Rattle.iri_robots.proofs.pattern.fits_after_star.Given as goal

abbrev pub invariant-loop-pattern : goal.invariant-loop-pattern
invariant-loop-pattern l = Fits l.anchored (42 ∷ l.fn.pattern) l.fn.text ↔ Fits l.anchored (42 ∷ l.pattern) l.text

abbrev pub decreases-loop-pattern : goal.decreases-loop-pattern
decreases-loop-pattern l = length l.pattern + length l.text
