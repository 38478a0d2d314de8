use Rattle.std.proofs.Common.{◌∙◌}
use Rattle.iri_text.proofs.Writes.{more}
use Rattle.iri_text.proofs.streams.write_sink.WriteSink.put_rest.Goals as goal

pub loop-rest-preserved : goal.loop-rest-preserved
loop-rest-preserved g c =
    let i = c.loop-rest.invariant in
    (c.in_ok-n.ensures.same ∙ i.0, (λ _. c.write_some.ensures.pending), more _ _ _ c.loop-rest.rest.now _ c.in_ok-n.n i.2 c.in_ok-n.ensures.bytes)
