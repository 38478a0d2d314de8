use Rattle.iri_percent.proofs.Common.{◌≡◌, ◌≤◌, ◌++◌, length, flat_map, decoding, fragment_bytes, fragments_left}
use Rattle.iri_percent.proofs.decode.PercentDecodedWhatwgBytes.into_bytes.Given as goal

-- what is there, and what the fragments still to come give, are the decoding; each fragment is read from some bytes
abbrev pub invariant-loop-fragment : goal.invariant-loop-fragment
invariant-loop-fragment l = record {
  can : (goal.iterator-loop-fragment).can_next l.fragment-iterator;
  ends : (goal.iterator-loop-fragment).is_finite l.fragment-iterator;
  same : l.bytes.items ++ flat_map fragment_bytes (fragments_left l.fragment-iterator) ≡ decoding l.self.source.now;
  some : length (fragments_left l.fragment-iterator) ≤ length l.self.source.now;
}
