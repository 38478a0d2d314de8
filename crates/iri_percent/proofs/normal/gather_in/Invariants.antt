use Rattle.iri_percent.proofs.Common.{◌≡◌, false, ◌-◌, ◌+◌, ◌≤◌, ◌<◌, length, take, get_or, IsUtf8, stays, Gathered}
use Rattle.iri_percent.proofs.normal.gather_in.Given as goal

-- what was written for the bytes so far, with a candidate after them
abbrev pub invariant-changes : goal.invariant-changes
invariant-changes g l = record {
  gathered : Gathered g.S.Spec.tests l.lower l.text l.at l.run.read (take l.run.written l.buf);
  utf8 : IsUtf8 (take l.run.written l.buf);
  room : l.run.written ≤ 60;
  inside : l.at + l.run.read < length l.text;
  candidate : stays l.lower (get_or l.text (l.at + l.run.read) 0) ≡ false;
}

abbrev pub decreases-changes : goal.decreases-changes
decreases-changes g l = length l.text - (l.at + l.run.read)
