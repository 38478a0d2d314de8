use Rattle.iri_grammar.proofs.Common.{◌≡◌, true, inl, inr, subst, sym, take, refl, cases_eq, class_test, lacks, AreUnits}
use Rattle.iri_grammar.proofs.units.UnitRuns.{no_units}
use Rattle.iri_grammar.proofs.units.WideChars.{wide_lacks, wide_units}
use Rattle.iri_grammar.proofs.unit.allowed_wide_len.Goals as goal

pub returns-then-has_first_ucschars : goal.returns-then-has_first_ucschars
returns-then-has_first_ucschars g c =
    let s = g.S.Spec.tests in
    let p = class_test s c.args.class in
    let t = c.args.bytes.now in
    let k = c.has_first_ucschars.ensures c.if-has_first_ucschars.true in
    elim (cases_eq c.wide_len.result 0) [
      | inl none ↦ record { units = subst (AreUnits p t) (sym none) (no_units p t); bare = subst (λ n. lacks 37 (take n t) ≡ true) (sym none) refl }
      | inr some ↦ record {
        units = wide_units s g.met.S.Spec.lawful k c.args.class t c.wide_len.result (c.wide_len.ensures some);
        bare = wide_lacks s g.met.S.Spec.lawful k c.args.class t c.wide_len.result (c.wide_len.ensures some);
      }
    ]
