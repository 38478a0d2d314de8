use Rattle.iri_normal.proofs.Common.{◌≡◌, ◌≤◌, ◌+◌, ◌-◌, length, pieces, taken}
use Rattle.iri_normal.proofs.remove_dot_segments.segments.taken.Given as goal

-- so many are taken back before what was read, and so many of it stay, before the rest takes some of these back
abbrev pub invariant-dots : goal.invariant-dots
invariant-dots l = record {
  room : l.gone + l.stay + length l.rest ≤ length l.fn.text;
  same : taken (pieces 47 l.fn.text) l.fn.count ≡ l.gone + (taken (pieces 47 l.rest) l.fn.count - l.stay);
}

abbrev pub decreases-dots : goal.decreases-dots
decreases-dots l = length l.rest
