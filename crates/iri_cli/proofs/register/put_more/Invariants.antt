use Rattle.iri_cli.proofs.Common.{Ok, take, PutsAll, sink_state, more_numbers}
use Rattle.iri_cli.proofs.register.put_more.Given as goal

abbrev pub invariant-loop-number : goal.invariant-loop-number
invariant-loop-number g l =
    let state = sink_state g.O.Sink.written g.O.Sink.faults g.O.Sink.room_left in
    PutsAll (state l.fn.sink) (state l.sink) (Ok tt) (more_numbers (take l.number-index l.numbers))
