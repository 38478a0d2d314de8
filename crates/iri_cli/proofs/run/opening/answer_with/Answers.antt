use Rattle.iri_cli.proofs.Common.{◌∙◌, arith, subst, sym, sink_state, Ran}
use Rattle.iri_cli.proofs.BaseLine.{gives_fault, refuses}
use Rattle.iri_cli.proofs.OpeningLemmas.{after_line, first_read, new_reader, refusal_is}
use Rattle.iri_cli.proofs.run.opening.answer_with.Goals as goal

pub returns-in-Err : goal.returns-in-Err
returns-in-Err g c =
    let rules = g.A.Answers.rules c.args.start in
    let is_new = new_reader g.S.Spec.tests rules (g.met.A.Answers.begins c.args.start) _ _ _ c.requires.buffers in
    subst (Ran rules _ _) (sym c.fault_end.ensures)
    (gives_fault rules _ _ _ _ _ _ is_new c.requires.not_fixed _ c.in-Err.ensures.advances
    (sink_state g.O.Sink.written g.O.Sink.faults g.O.Sink.room_left c.args.sink.now))

pub prepare_base-requires : goal.prepare_base-requires
prepare_base-requires g c =
    let n = first_read g.S.Spec.tests (g.A.Answers.rules c.args.start) (g.met.A.Answers.begins c.args.start) _ _ _ _ _ _ _ _ _ _
    c.requires.buffers c.in-Ok.ensures.advances c.first_line.ensures in
    omega (arith, n.1, c.requires.buffers.base_room)

pub answer_after-requires : goal.answer_after-requires
answer_after-requires g c =
    let s = g.S.Spec.tests in
    let rules = g.A.Answers.rules c.args.start in
    let begins = g.met.A.Answers.begins c.args.start in
    let line = c.first_line.result.now in
    let n = first_read s rules begins _ _ _ _ _ _ _ _ _ line c.requires.buffers c.in-Ok.ensures.advances c.first_line.ensures in
    record {
      room = omega (arith, c.requires.buffers.output_room);
      base = (line, _, after_line s rules begins line _ _ _ _ c.requires.not_fixed n.0 n.1 c.in-Ok-prepare_base.ensures);
    }

pub returns-in-Ok-prepare_base : goal.returns-in-Ok-prepare_base
returns-in-Ok-prepare_base g c =
    let s = g.S.Spec.tests in
    let rules = g.A.Answers.rules c.args.start in
    let begins = g.met.A.Answers.begins c.args.start in
    let line = c.first_line.result.now in
    let n = first_read s rules begins _ _ _ _ _ _ _ _ _ line c.requires.buffers c.in-Ok.ensures.advances c.first_line.ensures in
    c.answer_after.ensures line _ _ (after_line s rules begins line _ _ _ _ c.requires.not_fixed n.0 n.1 c.in-Ok-prepare_base.ensures) n.2

pub returns-in-Err-prepare_base : goal.returns-in-Err-prepare_base
returns-in-Err-prepare_base g c =
    let s = g.S.Spec.tests in
    let rules = g.A.Answers.rules c.args.start in
    let begins = g.met.A.Answers.begins c.args.start in
    let line = c.first_line.result.now in
    let n = first_read s rules begins _ _ _ _ _ _ _ _ _ line c.requires.buffers c.in-Ok.ensures.advances c.first_line.ensures in
    refuses rules c.requires.not_fixed line c.in-Err-prepare_base.words.now (refusal_is s rules begins line ∙ c.in-Err-prepare_base.ensures)
    _ _ _ _ _ _ _ _ n.0 n.2 c.refuse_base.ensures.refuses c.refuse_base.ensures.room
