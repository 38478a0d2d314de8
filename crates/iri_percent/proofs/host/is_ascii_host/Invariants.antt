use Rattle.iri_percent.proofs.Common.{◌≡◌, true, length, whole_triplets, is_ascii_host}
use Rattle.iri_percent.proofs.host.is_ascii_host.Given as goal

-- what is left decides as the whole does
abbrev pub invariant-loop-rest : goal.invariant-loop-rest
invariant-loop-rest l = record {
  whole : whole_triplets l.rest ≡ true;
  same : is_ascii_host l.rest ≡ is_ascii_host l.host;
}

abbrev pub decreases-loop-rest : goal.decreases-loop-rest
decreases-loop-rest l = length l.rest
