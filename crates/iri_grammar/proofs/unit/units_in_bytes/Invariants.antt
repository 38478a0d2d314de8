use Rattle.iri_grammar.proofs.Common.{◌≡◌, ◌-◌, true, length, take, class_test, lacks, AreUnits}
use Rattle.iri_grammar.proofs.unit.units_in_bytes.Given as goal

abbrev pub invariant-units : goal.invariant-units
invariant-units g l = AreUnits (class_test g.S.Spec.tests l.class) l.bytes l.i × (l.bare ≡ true → lacks 37 (take l.i l.bytes) ≡ true)

abbrev pub decreases-units : goal.decreases-units
decreases-units g l = length l.bytes - l.i
