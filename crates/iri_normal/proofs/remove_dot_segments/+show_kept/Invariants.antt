use Rattle.iri_normal.proofs.Common.{length}
use Rattle.iri_normal.proofs.remove_dot_segments.+show_kept.Given as goal

abbrev pub decreases-show_kept : goal.decreases-show_kept
decreases-show_kept g l = length l.text.now
