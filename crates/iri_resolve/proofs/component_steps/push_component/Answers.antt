use Rattle.iri_resolve.proofs.Common.{◌+◌, length, sym, ◌∙◌, ap, arith, subst, eqb-true, normal_nil, normal, whole_triplets}
use Rattle.iri_resolve.proofs.Common.{component_steps}
use Rattle.std.proofs.lemmas.List.{nil_from_length, take_rest}
use Rattle.iri_percent.specs.inside.Pieces.{case_of}
use Rattle.iri_resolve.proofs.ComponentLemmas.{prefix-is, something, walk-ended, walk-stopped, walked-on}
use Rattle.iri_resolve.proofs.PushedSteps.{Going, done-err, going}
use Rattle.iri_resolve.proofs.component_steps.push_component.Goals as goal

pub prefixes-init : goal.prefixes-init
prefixes-init g c =
    let same = c.as_bytes-rest.ensures.value in
    let steps = component_steps g.S.Spec.tests c.args.part c.args.lower 0 c.args.start in
    record {
      steps = subst (λ t. Going g.T.StepSink.puts g.T.StepSink.stops c.args.sink.now (steps c.args.text.now) (steps t) c.args.sink.now) (sym same)
          (going g.met.T.StepSink.rules c.args.sink.now (steps c.args.text.now));
      place = ap (λ t. c.args.start + length (normal g.S.Spec.tests (case_of c.args.lower) t)) same;
      room = omega (arith, ap length same);
      whole = ap whole_triplets same ∙ c.requires.whole;
    }

pub overflow_add-at : goal.overflow_add-at
overflow_add-at g c =
    let q = prefix-is g.S.Spec.tests g.met.S.Spec.lawful c.args.part c.args.lower c.prefixes.at c.prefixes.rest.now c.prefixes.invariant.whole
    (something c.prefixes.rest.now (sym c.is_empty.ensures ∙ c.prefixes-test.true)) in
    omega (arith, q.shorter, q.within, c.in_ok-prefix.ensures.len, c.in_ok-prefix.ensures.normal_len, c.prefixes.invariant.room, c.requires.room)

pub slice_bounds-rest-count : goal.slice_bounds-rest-count
slice_bounds-rest-count g c =
    let q = prefix-is g.S.Spec.tests g.met.S.Spec.lawful c.args.part c.args.lower c.prefixes.at c.prefixes.rest.now c.prefixes.invariant.whole
    (something c.prefixes.rest.now (sym c.is_empty.ensures ∙ c.prefixes-test.true)) in
    omega (arith, q.within, c.in_ok-prefix.ensures.len)

pub slice_bounds-rest-start : goal.slice_bounds-rest-start
slice_bounds-rest-start g c =
    let q = prefix-is g.S.Spec.tests g.met.S.Spec.lawful c.args.part c.args.lower c.prefixes.at c.prefixes.rest.now c.prefixes.invariant.whole
    (something c.prefixes.rest.now (sym c.is_empty.ensures ∙ c.prefixes-test.true)) in
    omega (arith, q.within, c.in_ok-prefix.ensures.len)

pub prefixes-preserved : goal.prefixes-preserved
prefixes-preserved g c =
    let w = walked-on g.met.T.StepSink.rules g.S.Spec.tests c.args.part c.args.lower c.args.start c.args.text.now c.prefixes.at c.prefixes.rest.now g.met.S.Spec.lawful
    (something c.prefixes.rest.now (sym c.is_empty.ensures ∙ c.prefixes-test.true)) c.prefixes.invariant c.in_ok-prefix.ensures.steps in
    rw (take_rest c.prefixes.rest.now c.in_ok-prefix.prefix.len, c.in_ok-prefix.ensures.len, c.in_ok-prefix.ensures.normal_len) w

pub returns-clause-steps : goal.returns-clause-steps
returns-clause-steps g c =
    walk-ended g.met.T.StepSink.rules g.S.Spec.tests c.args.part c.args.lower c.args.start c.args.text.now c.prefixes.at c.prefixes.rest.now g.met.S.Spec.lawful
    (nil_from_length c.prefixes.rest.now
    (eqb-true (length c.prefixes.rest.now) 0 (sym c.is_empty.ensures ∙ c.prefixes-test.false))) c.prefixes.invariant

pub returns-clause-place : goal.returns-clause-place
returns-clause-place g c =
    let rest = nil_from_length c.prefixes.rest.now
    (eqb-true (length c.prefixes.rest.now) 0 (sym c.is_empty.ensures ∙ c.prefixes-test.false)) in
    let none = ap (λ z. length (normal g.S.Spec.tests (case_of c.args.lower) z)) rest
    ∙ ap length (normal_nil g.S.Spec.tests (case_of c.args.lower)) in
    omega (arith, none, c.prefixes.invariant.place)

pub returns-in_err-prefix-clause-steps : goal.returns-in_err-prefix-clause-steps
returns-in_err-prefix-clause-steps g c =
    walk-stopped g.met.T.StepSink.rules g.S.Spec.tests c.args.part c.args.lower c.args.start c.args.text.now c.prefixes.at c.prefixes.rest.now g.met.S.Spec.lawful
    (done-err c.from_residual.result c.from_residual.ensures.0) (something c.prefixes.rest.now (sym c.is_empty.ensures ∙ c.prefixes-test.true))
    c.prefixes.invariant c.in_err-prefix.ensures.steps
