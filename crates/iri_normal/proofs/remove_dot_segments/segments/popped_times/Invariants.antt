use Rattle.iri_normal.proofs.Common.{◌≡◌, true, ends_at_slash, popped_times}
use denote.Text.{Utf8}
use denote.Shadow.{shadow}
use Rattle.iri_normal.proofs.remove_dot_segments.segments.popped_times.Given as goal

abbrev pub invariant-pops : goal.invariant-pops
invariant-pops l = record {
  utf8 : shadow (Utf8 l.rest);
  ends : ends_at_slash l.rest ≡ true;
  text : popped_times l.left l.rest ≡ popped_times l.fn.count l.fn.directory;
}

abbrev pub decreases-pops : goal.decreases-pops
decreases-pops l = l.left
