use Rattle.std.proofs.Common.{Err, subst}
use Rattle.iri_text.specs.Sink.{PutsAll}
use Rattle.iri_text.specs.Streams.{untold}
use Rattle.iri_text.proofs.Writes.{then_prefix, untold_puts}
use Rattle.iri_text.proofs.streams.write_sink.WriteSinkSink.put_all.Goals as goal

pub returns-in-Err-clause-puts : goal.returns-in-Err-clause-puts
returns-in-Err-clause-puts g c = untold_puts _ _ (Err _) c.args.piece.now c.write_some.ensures.later tt c.in-Err.ensures.raised

pub returns-then-n-piece-clause-puts : goal.returns-then-n-piece-clause-puts
returns-then-n-piece-clause-puts g c =
    let r = c.put_rest.ensures in
    subst (λ n. PutsAll (untold n) (untold c.put_rest.new.self.faults) c.put_rest.result c.args.piece.now) c.in-Ok.ensures.same
    (untold_puts _ _ c.put_rest.result c.args.piece.now r.later r.same r.raised)

pub returns-then-n-piece-clause-prefix : goal.returns-then-n-piece-clause-prefix
returns-then-n-piece-clause-prefix g c = then_prefix _ _ _ c.args.piece.now _ c.put_rest.result c.in-Ok.ensures.bytes c.put_rest.ensures.prefix
