use Rattle.iri_cli.proofs.Common.{arith, base_text, room-so}
use Rattle.iri_cli.proofs.Answered.{start_lines, one_line_more, line_fits, fails_at, finishes, stops_at, fails_first}
use Rattle.iri_cli.proofs.Reading.{falls}
use Rattle.iri_cli.proofs.run.answering.answer_lines.Goals as goal

pub loop-answers-init : goal.loop-answers-init
loop-answers-init g c = λ start ready. let f = c.in_default.ensures {u = tt} in
    start_lines _ start _ _ _ _ _ ready.at ready.first ready.going f.kept f.same (room-so (λ _. tt) f.room)

pub advance-requires : goal.advance-requires
advance-requires g c = (c.loop-answers.invariant c.requires.0 c.requires.1).going.going

pub answer_line-requires : goal.answer_line-requires
answer_line-requires g c =
    let start = c.requires.0 in
    let n = rw c.in-Ok-true.field-0-test at c.in-Ok-true.ensures.advances in
    let i = c.loop-answers.invariant c.requires.0 c.requires.1 in (
      record start { between = i.between },
      i.at,
      line_fits _ _ _ _ _ _ _ _ _ _ _ _ _ _ c.requires.1.base_taken i n,
      omega (arith, i.few, i.going.within),
    )

pub loop-answers-smaller : goal.loop-answers-smaller
loop-answers-smaller g c =
    let n = rw c.in-Ok-true.field-0-test at c.in-Ok-true.ensures.advances in
    falls c.requires.0.rules _ _ _ _ _ _ (c.loop-answers.invariant c.requires.0 c.requires.1).going n

pub loop-answers-preserved : goal.loop-answers-preserved
loop-answers-preserved g c = λ start ready.
    let n = rw c.in-Ok-true.field-0-test at c.in-Ok-true.ensures.advances in
    one_line_more _ _ _ _ _ _ _ _ _ _ _ _ _ _ ready.base_taken
    (c.loop-answers.invariant start ready) _ _ c.in-Ok.good n c.in-Ok.ensures

pub returns-in-Err-answer_line : goal.returns-in-Err-answer_line
returns-in-Err-answer_line g c = λ start ready before faults first begins read earlier.
    let n = rw c.in-Ok-true.field-0-test at c.in-Ok-true.ensures.advances in
    fails_at _ _ _ _ _ _ _ _ _ _ _ _ _ _ ready.base_taken
    (c.loop-answers.invariant start ready) before faults first begins read earlier _ _ _ _ c.error_end.ensures n c.in-Err-answer_line.ensures

pub returns-in-Ok-false : goal.returns-in-Ok-false
returns-in-Ok-false g c = λ start ready before faults first begins read earlier.
    let n = rw c.in-Ok-false.field-0-test at c.in-Ok-false.ensures.advances in
    finishes _ _ _ _ _ _ _ _ _ _ _ _ _ _ ready.base_taken
    (c.loop-answers.invariant start ready) before faults first begins read earlier _ _ n (c.close_lines.ensures.closes (base_text c.args.resolver.now))
    (c.close_lines.ensures.room (base_text c.args.resolver.now))

pub returns-in-Err-advance : goal.returns-in-Err-advance
returns-in-Err-advance g c = λ start ready before faults first begins read earlier.
    stops_at _ _ _ _ _ _ _ _ _ _ _ _ _ _ ready.base_taken
    (c.loop-answers.invariant start ready) before faults first begins read earlier _ _ c.fault_end.ensures c.in-Err-advance.ensures.advances

pub returns-in-Err : goal.returns-in-Err
returns-in-Err g c = λ start ready before faults first begins read earlier.
    fails_first start before _ _ _ _ _ c.flush.ensures.kept c.in-Err.ensures.cause earlier c.flush.ensures.later
    (room-so (λ h. absurd (cc h)) c.in-Err.ensures.room)
