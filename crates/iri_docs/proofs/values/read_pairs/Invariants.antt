use Rattle.iri_docs.proofs.Common.{◌≡◌, members_view, inner_pairs}
use Rattle.iri_docs.proofs.StepLemmas.{after}
use Rattle.iri_docs.proofs.values.read_pairs.Given as goal

abbrev pub invariant-loop-key : goal.invariant-loop-key
invariant-loop-key l =
    (goal.iterator-loop-key).can_next l.key-iterator ×
    (goal.iterator-loop-key).is_finite l.key-iterator ×
    (inner_pairs (members_view l.fn.object.entries) ≡ after l.pairs (inner_pairs (members_view l.key-iterator)))
