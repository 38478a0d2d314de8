use Rattle.iri_percent.proofs.Common.{NoCandidate}
use Rattle.iri_percent.proofs.normal.find_in_short.Given as goal

abbrev pub invariant-loop-i : goal.invariant-loop-i
invariant-loop-i l = NoCandidate l.lower l.text l.i
