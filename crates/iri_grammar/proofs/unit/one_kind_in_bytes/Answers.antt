use Rattle.iri_grammar.proofs.Common.{◌≡◌, ◌∙◌, true, ap, subst, sym, take, drop, class_test, lacks, begins_with_triplet, AreUnits}
use Rattle.iri_grammar.proofs.units.ClassLaws.{class_at_ascii, class_has_no_percent}
use Rattle.iri_grammar.proofs.units.UnitRuns.{no_units, no_triplet_at, run_lacks, run_units}
use Rattle.iri_grammar.proofs.unit.one_kind_in_bytes.Goals as goal

pub returns-then-has_byte-clause-units : goal.returns-then-has_byte-clause-units
returns-then-has_byte-clause-units g c =
    let s = g.S.Spec.tests in
    subst (AreUnits (class_test s c.args.class) c.args.bytes.now) (sym c.run_len.ensures) (run_units s g.met.S.Spec.lawful c.args.class c.args.bytes.now)

pub returns-then-has_byte-clause-bare : goal.returns-then-has_byte-clause-bare
returns-then-has_byte-clause-bare g c _ =
    subst (λ n. lacks 37 (take n c.args.bytes.now) ≡ true) (sym c.run_len.ensures) (run_lacks c.args.class c.args.bytes.now)

pub returns-then-b-eq37-clause-units : goal.returns-then-b-eq37-clause-units
returns-then-b-eq37-clause-units g c = c.triplets_len.ensures.units (class_test g.S.Spec.tests c.args.class)

pub returns-then-b-eq37-clause-stops : goal.returns-then-b-eq37-clause-stops
returns-then-b-eq37-clause-stops g c none = record {
  triplet = sym (ap (λ n. begins_with_triplet (drop n c.args.bytes.now)) none) ∙ c.triplets_len.ensures.stops;
  ascii = λ _ _. ap (class_test g.S.Spec.tests c.args.class) c.if-b-eq37.true ∙ class_has_no_percent g.S.Spec.tests g.met.S.Spec.lawful c.args.class;
}

pub returns-in-empty-clause-units : goal.returns-in-empty-clause-units
returns-in-empty-clause-units g c = no_units (class_test g.S.Spec.tests c.args.class) c.args.bytes.now

pub returns-else-b-eq37-clause-stops : goal.returns-else-b-eq37-clause-stops
returns-else-b-eq37-clause-stops g c _ = record {
  triplet = no_triplet_at c.args.bytes.now c.if-b-eq37.false;
  ascii = λ l _. class_at_ascii g.S.Spec.tests g.met.S.Spec.lawful c.args.class _ l ∙ (sym c.has_byte.ensures ∙ c.if-has_byte.false);
}
