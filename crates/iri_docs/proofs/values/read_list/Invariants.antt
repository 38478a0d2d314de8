use Rattle.iri_docs.proofs.Common.{◌≡◌, drop, items_view, inner_texts}
use Rattle.iri_docs.proofs.StepLemmas.{after}
use Rattle.iri_docs.proofs.values.read_list.Given as goal

abbrev pub invariant-loop-value : goal.invariant-loop-value
invariant-loop-value l =
    inner_texts (items_view l.fn.array.items) ≡ after l.items (inner_texts (items_view (drop l.value-index l.array.items)))
