use Rattle.std.proofs.Common.{◌≡◌, true, length}
use Rattle.iri_text.proofs.Writes.{WritesUpTo}
use Rattle.iri_text.proofs.streams.write_sink.WriteSink.put_rest.Given as goal

abbrev pub invariant-loop-rest : goal.invariant-loop-rest
invariant-loop-rest g l = (l.self.faults ≡ l.fn.self.faults) × (l.fn.self.pending ≡ true → l.self.pending ≡ true)
    × WritesUpTo (g.W.Write.contents l.fn.self.inner) (g.W.Write.contents l.self.inner) l.rest l.piece

abbrev pub decreases-loop-rest : goal.decreases-loop-rest
decreases-loop-rest g l = length l.rest
