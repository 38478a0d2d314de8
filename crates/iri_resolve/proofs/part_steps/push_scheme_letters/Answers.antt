use Rattle.iri_resolve.proofs.Common.{is_ascii_uppercase, SchemeLetter, step_if, ◌<◌, ◌+◌, ◌++◌, length, ◌∙◌, ap, arith, sym, drop}
use Rattle.iri_resolve.proofs.Common.{slice_index, scheme_steps}
use Rattle.iri_resolve.proofs.PushedSteps.{all_gone, going, going_on, gone_wrong}
use Rattle.iri_resolve.proofs.NormalStepLemmas.{next-letter, no-letters}
use Rattle.iri_resolve.proofs.part_steps.push_scheme_letters.Goals as goal

pub loop-i-init : goal.loop-i-init
loop-i-init g c = going g.met.T.StepSink.rules c.args.sink.now (scheme_steps 0 c.args.scheme.now)

pub loop-i-preserved : goal.loop-i-preserved
loop-i-preserved g c =
    let w = c.args.scheme.now in
    let i = c.loop-i.i in
    let low : i < length w = omega (arith, c.loop-i-test.true, ap length c.as_bytes-letters.ensures.value) in
    going_on g.met.T.StepSink.rules (scheme_steps i (drop i w)) (step_if (is_ascii_uppercase (slice_index c.as_bytes-letters.result.now i)) (SchemeLetter i))
    (scheme_steps (i + 1) (drop (i + 1) w))
    (next-letter w i low ∙ ap (λ t. step_if (is_ascii_uppercase (slice_index t i)) (SchemeLetter i) ++ scheme_steps (i + 1) (drop (i + 1) w)) (sym c.as_bytes-letters.ensures.value))
    c.loop-i.invariant c.in_ok-push_scheme_letter.ensures

pub returns-in_err-push_scheme_letter : goal.returns-in_err-push_scheme_letter
returns-in_err-push_scheme_letter g c =
    let w = c.args.scheme.now in
    let i = c.loop-i.i in
    let low : i < length w = omega (arith, c.loop-i-test.true, ap length c.as_bytes-letters.ensures.value) in
    gone_wrong g.met.T.StepSink.rules (scheme_steps i (drop i w)) (step_if (is_ascii_uppercase (slice_index c.as_bytes-letters.result.now i)) (SchemeLetter i))
    (scheme_steps (i + 1) (drop (i + 1) w))
    (next-letter w i low ∙ ap (λ t. step_if (is_ascii_uppercase (slice_index t i)) (SchemeLetter i) ++ scheme_steps (i + 1) (drop (i + 1) w)) (sym c.as_bytes-letters.ensures.value))
    c.from_residual.ensures.0 c.loop-i.invariant c.in_err-push_scheme_letter.ensures

pub returns : goal.returns
returns g c =
    let low = c.loop-i-test.false in
    all_gone g.met.T.StepSink.rules (scheme_steps c.loop-i.i (drop c.loop-i.i c.args.scheme.now))
    (no-letters c.args.scheme.now c.loop-i.i (omega (arith, low, ap length c.as_bytes-letters.ensures.value))) c.loop-i.invariant
