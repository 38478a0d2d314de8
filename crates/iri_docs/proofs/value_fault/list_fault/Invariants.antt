use Rattle.iri_docs.proofs.Common.{◌≡◌, drop, result_err, items_view, inner_texts}
use Rattle.iri_docs.proofs.value_fault.list_fault.Given as goal

abbrev pub invariant-loop-value : goal.invariant-loop-value
invariant-loop-value l =
    result_err (inner_texts (items_view l.fn.array.items)) ≡ result_err (inner_texts (items_view (drop l.value-index l.array.items)))
