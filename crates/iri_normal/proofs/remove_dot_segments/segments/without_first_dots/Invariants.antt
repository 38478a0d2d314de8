use Rattle.iri_normal.proofs.Common.{◌≡◌, ◌≤◌, [], true, length, is_path, ends_at_slash, written}
use denote.Text.{Utf8}
use denote.Shadow.{shadow}
use Rattle.iri_normal.proofs.remove_dot_segments.segments.without_first_dots.Given as goal

abbrev pub invariant-dots : goal.invariant-dots
invariant-dots g l = record {
  utf8 : shadow (Utf8 l.rest);
  ends : ends_at_slash l.text ≡ true → ends_at_slash l.rest ≡ true;
  path : is_path g.S.Spec.tests l.rest ≡ true;
  room : length l.rest ≤ length l.text;
  same : written [] l.rest ≡ written [] l.text;
}

abbrev pub decreases-dots : goal.decreases-dots
decreases-dots g l = length l.rest
