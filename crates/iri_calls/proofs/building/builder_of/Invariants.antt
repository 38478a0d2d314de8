use Rattle.iri_calls.proofs.Common.{◌≡◌, drop, given_by, given_from}
use Rattle.iri_edit.specs.Builders.{given}
use Rattle.iri_calls.proofs.building.builder_of.Given as goal

-- the parts that are left make of what is given so far what all parts make
abbrev pub invariant-loop-part : goal.invariant-loop-part
invariant-loop-part l = given_from (given l.builder) (drop l.part-index l.parts) ≡ given_by l.parts
