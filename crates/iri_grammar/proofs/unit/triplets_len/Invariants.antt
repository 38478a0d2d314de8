use Rattle.iri_grammar.proofs.Common.{◌-◌, ◌≤◌, ℕ, Bool, length, AreUnits}
use Rattle.iri_grammar.proofs.unit.triplets_len.Given as goal

abbrev pub invariant-triplets : goal.invariant-triplets
invariant-triplets l = record {
  within : l.i ≤ length l.bytes;
  units : (p : ℕ → Bool) → AreUnits p l.bytes l.i;
}

abbrev pub decreases-triplets : goal.decreases-triplets
decreases-triplets l = length l.bytes - l.i
