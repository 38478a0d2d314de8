use Rattle.iri_template.proofs.Common.{◌≡◌, ◌+◌, ◌-◌, ◌≤◌, length, Utf8, shadow, pieces, varspecs_fault}
use Rattle.iri_template.proofs.fault.check_varspecs.Given as goal

-- what is left has the fault of all
abbrev pub invariant-varspecs : goal.invariant-varspecs
invariant-varspecs l = record {
  utf8 : shadow (Utf8 l.rest);
  len : length l.rest ≤ length l.varspecs;
  fault : varspecs_fault (l.at + (length l.varspecs - length l.rest)) (pieces 44 l.rest) ≡ varspecs_fault l.at (pieces 44 l.varspecs);
}

abbrev pub decreases-varspecs : goal.decreases-varspecs
decreases-varspecs l = length l.rest
