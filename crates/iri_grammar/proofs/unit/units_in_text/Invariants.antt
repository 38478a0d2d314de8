use Rattle.iri_grammar.proofs.Common.{◌≡◌, ◌-◌, true, length, take, class_test, lacks, AreUnits}
use Rattle.iri_grammar.proofs.unit.units_in_text.Given as goal

abbrev pub invariant-units : goal.invariant-units
invariant-units g l = AreUnits (class_test g.S.Spec.tests l.class) l.s l.i × (l.bare ≡ true → lacks 37 (take l.i l.s) ≡ true)

abbrev pub decreases-units : goal.decreases-units
decreases-units g l = length l.s - l.i
