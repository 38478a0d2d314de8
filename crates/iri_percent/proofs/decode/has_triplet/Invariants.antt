use Rattle.iri_percent.proofs.Common.{◌≡◌, has_triplet, list_any, fragments_left, is_octet}
use Rattle.iri_percent.proofs.decode.has_triplet.Given as goal

-- an octet is among the fragments still to come as it is in the text
abbrev pub invariant-loop-fragment : goal.invariant-loop-fragment
invariant-loop-fragment l = record {
  can : (goal.iterator-loop-fragment).can_next l.fragment-iterator;
  ends : (goal.iterator-loop-fragment).is_finite l.fragment-iterator;
  same : list_any is_octet (fragments_left l.fragment-iterator) ≡ has_triplet l.text;
}
