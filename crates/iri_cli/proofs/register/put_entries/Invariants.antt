use Rattle.iri_cli.proofs.Common.{Ok, take, PutsAll, sink_state, entry_lines}
use Rattle.iri_cli.proofs.register.put_entries.Given as goal

abbrev pub invariant-loop-index : goal.invariant-loop-index
invariant-loop-index g l =
    let state = sink_state g.O.Sink.written g.O.Sink.faults g.O.Sink.room_left in
    PutsAll (state l.fn.sink) (state l.sink) (Ok tt) (entry_lines 1 (take l.index l.register.entries))
