use Rattle.iri_grammar.specs.ClassTests.{class_test}
use Rattle.iri_percent.proofs.coding.EncodedRuns.{past_none, past_more}
use Rattle.iri_percent.proofs.encode.past_run.Goals as goal

pub run-init : goal.run-init
run-init g c = record {
  utf8 = c.utf8.text;
  past = past_none
      (class_test g.S.Spec.tests c.args.class) c.args.stands c.args.text.now c.utf8.text;
}

pub run-preserved : goal.run-preserved
run-preserved g c =
    let p = class_test g.S.Spec.tests c.args.class in
    let tail = past_more p c.args.stands c.args.text.now c.run.rest.now c.past_ascii_run-tail.result.now c.run.invariant.past c.past_ascii_run-tail.ensures in
    let past = past_more p c.args.stands c.args.text.now c.past_ascii_run-tail.result.now c.in-Some.next.now tail c.in-Some.ensures.0 in
    record { utf8 = past.is_run.utf8; past = past }

pub returns-in-None : goal.returns-in-None
returns-in-None g c =
    past_more (class_test g.S.Spec.tests c.args.class) c.args.stands c.args.text.now c.run.rest.now c.past_ascii_run-tail.result.now c.run.invariant.past c.past_ascii_run-tail.ensures
