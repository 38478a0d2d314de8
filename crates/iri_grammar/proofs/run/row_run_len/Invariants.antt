use Rattle.iri_grammar.proofs.Common.{◌≡◌, ◌≤◌, ◌-◌, length, row_test, run_of}
use Rattle.iri_grammar.proofs.run.row_run_len.Given as goal

-- what is passed is of the class
abbrev pub invariant-passed : goal.invariant-passed
invariant-passed l = record {
  last : l.last ≡ length l.bytes - 16;
  passed : l.i ≤ run_of (row_test l.row) l.bytes;
}

abbrev pub decreases-passed : goal.decreases-passed
decreases-passed l = l.last - l.i
