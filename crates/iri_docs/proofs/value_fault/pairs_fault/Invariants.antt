use Rattle.iri_docs.proofs.Common.{◌≡◌, result_err, members_view, inner_pairs}
use Rattle.iri_docs.proofs.value_fault.pairs_fault.Given as goal

abbrev pub invariant-loop-value : goal.invariant-loop-value
invariant-loop-value l =
    (goal.iterator-loop-value).can_next l.value-iterator ×
    (goal.iterator-loop-value).is_finite l.value-iterator ×
    (result_err (inner_pairs (members_view l.fn.object.entries)) ≡ result_err (inner_pairs (members_view l.value-iterator)))
