use Rattle.std.proofs.Common.{take}
use Rattle.std.specs.List.{flat_map}
use Rattle.iri_text.proofs.Compose.{HasShown}
use Rattle.iri_text.proofs.shown.sequence.show_each.Given as goal

abbrev pub invariant-loop-value : goal.invariant-loop-value
invariant-loop-value g l = HasShown g.W.TextSink.puts g.W.TextSink.stops l.fn.sink
    (flat_map g.T.Show.text (take l.value-index l.values)) l.sink
