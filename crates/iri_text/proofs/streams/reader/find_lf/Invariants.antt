use Rattle.iri_text.proofs.Common.{◌≤◌, ◌-◌, length, take, NoLf}
use Rattle.iri_text.proofs.streams.reader.find_lf.Given as goal

abbrev pub invariant-passed : goal.invariant-passed
invariant-passed l = record {
  within : l.i ≤ length l.held;
  no_lf : NoLf (take l.i l.held);
}

abbrev pub decreases-passed : goal.decreases-passed
decreases-passed l = length l.held - l.i
