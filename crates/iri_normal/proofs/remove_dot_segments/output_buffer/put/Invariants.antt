use Rattle.iri_normal.proofs.Common.{◌≡◌, ◌≤◌, ◌+◌, ◌||◌, true, take, length, is_empty, ends_at_slash, written}
use Rattle.iri_normal.proofs.remove_dot_segments.output_buffer.put.Given as goal

-- the rest after the buffer gives what the path gives
abbrev pub invariant-dots : goal.invariant-dots
invariant-dots l = record {
  long : length l.buf ≡ 128;
  room : l.end + length l.rest ≤ l.fn.len + length l.fn.path;
  ends : (is_empty l.rest || ends_at_slash (take l.end l.buf)) ≡ true;
  text : written (take l.end l.buf) l.rest ≡ written (take l.fn.len l.fn.buf) l.fn.path;
}

abbrev pub decreases-dots : goal.decreases-dots
decreases-dots l = length l.rest
