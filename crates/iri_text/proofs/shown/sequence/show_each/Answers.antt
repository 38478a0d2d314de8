use Rattle.iri_text.proofs.Common.{subst, Shows}
use Rattle.iri_text.proofs.Compose.{shown_exit, flat_map_at}
use Rattle.iri_text.proofs.shown.sequence.show_each.Goals as goal

pub returns-in_err-show : goal.returns-in_err-show
returns-in_err-show g c =
    subst (λ t. Shows g.W.TextSink.puts g.W.TextSink.halts g.W.TextSink.stops c.args.sink.now t c.show.new.sink c.from_residual.result)
    (flat_map_at g.T.Show.text c.args.values.now c.loop-value.value-index c.value-item.result c.value-item.result c.loop-value-test.true c.value-item.is)
    (shown_exit g.met.W.TextSink.rules _ c.from_residual.ensures.0 c.loop-value.invariant c.in_err-show.ensures)
