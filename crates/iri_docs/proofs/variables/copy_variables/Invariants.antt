use Rattle.iri_docs.proofs.Common.{◌≡◌, ℕ, List, members_view, value_in, ShownValue, variables, value_by_name}
use Rattle.iri_docs.proofs.StepLemmas.{after}
use Rattle.iri_docs.proofs.variables.copy_variables.Given as goal

abbrev pub invariant-loop-key : goal.invariant-loop-key
invariant-loop-key l =
    (goal.iterator-loop-key).can_next l.key-iterator ×
    (goal.iterator-loop-key).is_finite l.key-iterator ×
    (done : List (List ℕ × ShownValue)) ×
    (variables (members_view l.fn.object.entries) ≡ after done (variables (members_view l.key-iterator))) ×
    ((n : List ℕ) → value_in l.context n ≡ value_by_name done n)
