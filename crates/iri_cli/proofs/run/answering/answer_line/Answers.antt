use Rattle.iri_cli.proofs.Common.{AnswersLine, base_text, sink_state, subst}
use Rattle.iri_cli.proofs.GoingLemmas.{flushed_line}
use Rattle.iri_cli.proofs.run.answering.answer_line.Goals as goal

pub returns : goal.returns
returns g c = λ at is.
    let stands_at = g.A.Answers.stands_at c.answer-answer.new.self (base_text c.args.resolver.now) in
    let state = sink_state g.O.Sink.written g.O.Sink.faults g.O.Sink.room_left in
    subst (λ l. AnswersLine stands_at at l (state c.args.sink.now) (state c.flushed.new.sink) c.flushed.result) c.line.ensures
    (flushed_line c.answer-answer.result c.flushed.result c.flushed.ensures (c.answer-answer.ensures at is))
