use Rattle.iri_percent.proofs.Common.{◌-◌, sym, ap, ◌∙◌, length, refl, arith, class_test}
use Rattle.iri_grammar.proofs.Ranges.{range_prefix}
use Rattle.iri_grammar.proofs.units.FirstUnits.{char_shorter}
use Rattle.iri_percent.proofs.coding.EncodedRuns.{run_from_char, run_boundary, run_prefix, run_within}
use Rattle.iri_percent.proofs.encode.next_run.Goals as goal

pub range-requires-clause-end_boundary : goal.range-requires-clause-end_boundary
range-requires-clause-end_boundary g c =
    let p = class_test g.S.Spec.tests c.args.class in
    let t = c.args.text.now in
    let rest = c.past_run-rest.result.now in
    let past = run_from_char p c.has-stands.result c.in-Some.c t c.chars-chars.result.rest.now c.next.new.self.rest.now c.as_str.result.now rest c.utf8.text c.chars-chars.ensures.rest c.in-Some.ensures.steps.0 (sym c.has-stands.ensures) c.as_str.ensures c.past_run-rest.ensures in
    run_boundary p c.has-stands.result t rest (length t - length rest) past refl

pub returns-in-Some : goal.returns-in-Some
returns-in-Some g c =
    let p = class_test g.S.Spec.tests c.args.class in
    let t = c.args.text.now in
    let rest = c.past_run-rest.result.now in
    let past = run_from_char p c.has-stands.result c.in-Some.c t c.chars-chars.result.rest.now c.next.new.self.rest.now c.as_str.result.now rest c.utf8.text c.chars-chars.ensures.rest c.in-Some.ensures.steps.0 (sym c.has-stands.ensures) c.as_str.ensures c.past_run-rest.ensures in
    record {
      is_run = run_prefix p c.has-stands.result t rest c.range.result.now past
          (c.range.ensures.value ∙ range_prefix t (length t - length rest));
      shorter = omega (
        arith,
        run_within p c.has-stands.result c.as_str.result.now rest c.past_run-rest.ensures,
        ap length c.as_str.ensures,
        char_shorter c.in-Some.c c.chars-chars.result.rest.now c.next.new.self.rest.now c.in-Some.ensures.steps.0,
        ap length c.chars-chars.ensures.rest,
      );
    }
