use Rattle.std.proofs.Common.{◌≡◌}
use Rattle.std.specs.Io.KnownBytes.{Keeps}
use Rattle.iri_text.proofs.streams.read_source.ReadSourceSource.take.Given as goal

abbrev pub invariant-reads : goal.invariant-reads
invariant-reads g l = (l.self-inside.faults ≡ l.fn.self.faults)
    × Keeps (g.R.Read.remaining l.fn.self.inner) (g.R.Read.remaining l.self-inside.reader)
