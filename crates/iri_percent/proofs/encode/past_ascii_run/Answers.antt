use Rattle.iri_percent.proofs.Common.{true, false, sym, subst, class_test, ascii_test, is_other, IsPastRun}
use Rattle.iri_grammar.proofs.units.ClassLaws.{class_has_ascii}
use Rattle.iri_percent.proofs.coding.EncodedRuns.{past_ascii, other_ascii}
use Rattle.iri_percent.proofs.encode.past_ascii_run.Goals as goal

pub returns-then-stands : goal.returns-then-stands
returns-then-stands g c =
    let p = class_test g.S.Spec.tests c.args.class in
    subst (λ v. IsPastRun p v c.args.text.now c.past_run.result.now) (sym c.if-stands.true)
    (subst (IsPastRun p true c.args.text.now) (sym c.past_run.ensures)
    (past_ascii p (ascii_test c.args.class) true (class_has_ascii g.S.Spec.tests g.met.S.Spec.lawful c.args.class) c.args.text.now c.utf8.text))

pub returns : goal.returns
returns g c =
    let p = class_test g.S.Spec.tests c.args.class in
    subst (λ v. IsPastRun p v c.args.text.now c.past_other_run.result.now) (sym c.if-stands.false)
    (subst (IsPastRun p false c.args.text.now) (sym c.past_other_run.ensures)
    (past_ascii p (is_other c.args.class) false (other_ascii g.S.Spec.tests g.met.S.Spec.lawful c.args.class) c.args.text.now c.utf8.text))
