-- How far a pattern fits up to its first `*`.
use Rattle.std.specs.Prelude.{ℕ, Bool, List}
use Rattle.iri_robots.specs.declared.pattern.Reached.{Reached}
use Rattle.iri_robots.specs.declared.pattern.Reached.TheVariants.{End, Star, Nowhere}
use Rattle.iri_robots.specs.inside.Fits.{Fits, FitsNot, StopsAtStar}

-- the end of the pattern, so that it fits; or a `*` with what is left of pattern and text; or nothing fits
abbrev pub HasReached : Bool → List ℕ → List ℕ → Reached → Type 0
HasReached anchored q s End = Fits anchored q s
HasReached anchored q s (Star rest place) = StopsAtStar anchored q s rest.now place.now
HasReached anchored q s Nowhere = FitsNot anchored q s
