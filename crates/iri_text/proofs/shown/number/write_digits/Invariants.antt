use Rattle.std.proofs.Common.{◌≡◌, ◌<◌, ◌+◌, ◌^◌, ◌++◌, drop, decimal, length}
use Rattle.iri_text.proofs.shown.number.write_digits.Given as goal

-- what is left of the number stands before the digits that are written
abbrev pub invariant-loop-rest : goal.invariant-loop-rest
invariant-loop-rest l = record {
  room : length l.buf ≡ 40;
  above : 0 < l.at;
  within : l.at < 40;
  small : l.rest < 10 ^ l.at;
  digits : decimal l.fn.number ≡ decimal l.rest ++ drop (l.at + 1) l.buf;
}

abbrev pub decreases-loop-rest : goal.decreases-loop-rest
decreases-loop-rest l = l.rest
