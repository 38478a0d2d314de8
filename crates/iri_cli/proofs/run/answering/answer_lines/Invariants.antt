use Rattle.iri_cli.proofs.Common.{◌+◌, ◌-◌, length, base_text, sink_state, Answering, IsReady}
use Rattle.iri_cli.specs.inside.Going.{Goes}
use Rattle.iri_cli.proofs.run.answering.answer_lines.Given as goal

abbrev pub invariant-loop-answers : goal.invariant-loop-answers
invariant-loop-answers g l =
    (start : Answering) → IsReady (g.A.Answers.stands_at l.fn.answers (base_text l.resolver)) start l.fn.reader
    → Goes (g.A.Answers.stands_at l.answers (base_text l.resolver)) start l.fn.reader l.reader (g.I.Source.left l.fn.source) (g.I.Source.left l.source)
    (g.I.Source.faults l.fn.source) (g.I.Source.faults l.source)
    (sink_state g.O.Sink.written g.O.Sink.faults g.O.Sink.room_left l.fn.sink)
    (sink_state g.O.Sink.written g.O.Sink.faults g.O.Sink.room_left l.sink) l.all_good

abbrev pub decreases-loop-answers : goal.decreases-loop-answers
decreases-loop-answers g l = l.reader.input_limit + length l.reader.held - l.reader.taken
