use Rattle.iri_template.proofs.Common.{◌≡◌, ◌+◌, ◌<◌, ◌≤◌, drop, is_ascii_digit, run_of}
use Rattle.iri_template.specs.VarSpecs.{number_from, number_of}
use Rattle.iri_template.proofs.varspec.read_max_length.Given as goal

-- all so far are digits, and their number has no more of them
abbrev pub invariant-loop-i : goal.invariant-loop-i
invariant-loop-i l = record {
  digits : l.i + run_of is_ascii_digit (drop l.i l.digits) ≡ run_of is_ascii_digit l.digits;
  value : number_from l.n (drop l.i l.digits) ≡ number_of l.digits;
  none : l.i ≤ 0 → l.n < 1;
  one : l.i ≤ 1 → l.n < 10;
  two : l.i ≤ 2 → l.n < 100;
  three : l.i ≤ 3 → l.n < 1000;
  four : l.i ≤ 4 → l.n < 10000;
}
