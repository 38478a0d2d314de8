use Rattle.iri_normal.proofs.Common.{◌≡◌, ◌≤◌, length, take, is_byte}
use Rattle.memchr.specs.Find.{Nowhere, Passes}
use Rattle.iri_normal.proofs.remove_dot_segments.output_buffer.rfind_near.Given as goal

-- no slash stands after what is left
abbrev pub invariant-bytes : goal.invariant-bytes
invariant-bytes l = record {
  within : length l.rest ≤ length l.bytes;
  prefix : l.rest ≡ take (length l.rest) l.bytes;
  none : Nowhere (Passes (is_byte 47) l.bytes) (length l.rest) (length l.bytes);
}

abbrev pub decreases-bytes : goal.decreases-bytes
decreases-bytes l = length l.rest
