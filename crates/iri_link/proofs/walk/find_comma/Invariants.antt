use Rattle.iri_link.proofs.Common.{◌≡◌, drop}
use Rattle.iri_link.specs.LaxReadings.{lax_reading, passed}
use Rattle.iri_link.specs.inside.Pieces.{passing_phase}
use Rattle.iri_link.proofs.walk.find_comma.Given as goal

-- what is left is passed over so
abbrev pub invariant-loop-i : goal.invariant-loop-i
invariant-loop-i l = lax_reading passed l.bytes ≡ lax_reading (passing_phase l.place) (drop l.i l.bytes)
