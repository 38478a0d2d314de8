use Rattle.iri_link.proofs.Common.{◌≡◌, ◌≤◌, ◌<◌, length, take, slice_index}
use Rattle.iri_link.specs.inside.Pieces.{without_end}
use Rattle.iri_link.proofs.runs.len_without_end.Given as goal

-- what follows are blanks
abbrev pub invariant-loop-len : goal.invariant-loop-len
invariant-loop-len l = record {
  bound : l.len ≤ length l.bytes;
  same : without_end l.bytes ≡ without_end (take l.len l.bytes);
  ascii : l.len < length l.bytes → slice_index l.bytes l.len < 128;
}

abbrev pub decreases-loop-len : goal.decreases-loop-len
decreases-loop-len l = l.len
