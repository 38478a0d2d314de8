use Rattle.iri_percent.specs.FragmentViews.{fragments_left}
use Rattle.iri_calls.proofs.DecodingLemmas.{Writing}
use Rattle.iri_calls.proofs.decoding.write_decoded.Given as goal

abbrev pub invariant-loop-piece : goal.invariant-loop-piece
invariant-loop-piece l = record {
  can : (goal.iterator-loop-piece).can_next l.piece-iterator;
  ends : (goal.iterator-loop-piece).is_finite l.piece-iterator;
  left : Writing l.bytes l.fn.out (fragments_left l.piece-iterator) l.at l.out;
}
