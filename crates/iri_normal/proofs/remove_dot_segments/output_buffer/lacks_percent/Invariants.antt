use Rattle.iri_normal.proofs.Common.{◌≡◌, ◌&&◌, drop, lacks}
use Rattle.iri_normal.proofs.remove_dot_segments.output_buffer.lacks_percent.Given as goal

abbrev pub invariant-loop-b : goal.invariant-loop-b
invariant-loop-b l = (l.lacks && lacks 37 (drop l.b-index l.buf)) ≡ lacks 37 l.buf
