use Rattle.iri_robots.proofs.EscapeLemmas.{AreCounted}
use Rattle.iri_robots.proofs.escape.read_bytes.Given as goal

-- what is read, and what is left
abbrev pub invariant-loop-byte : goal.invariant-loop-byte
invariant-loop-byte l = AreCounted l.initial.scan l.bytes l.scan l.byte-index
