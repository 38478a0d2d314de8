use Rattle.iri_normal.proofs.Common.{◌≡◌, ◌≤◌, ◌||◌, true, take, length, ◌==◌, ends_at_slash, popped_times}
use Rattle.iri_normal.proofs.remove_dot_segments.output_buffer.pop_times.Given as goal

abbrev pub invariant-pops : goal.invariant-pops
invariant-pops l = record {
  long : length l.buf ≡ 128;
  within : l.end ≤ l.fn.len;
  ends : (ends_at_slash (take l.end l.buf) || l.left == 0) ≡ true;
  text : popped_times l.left (take l.end l.buf) ≡ popped_times l.fn.count (take l.fn.len l.fn.buf);
}

abbrev pub decreases-pops : goal.decreases-pops
decreases-pops l = l.left
