use Rattle.iri_docs.proofs.Common.{◌≡◌, result_err, members_view, variables}
use Rattle.iri_docs.proofs.variables.variables_fault.Given as goal

abbrev pub invariant-loop-key : goal.invariant-loop-key
invariant-loop-key l =
    (goal.iterator-loop-key).can_next l.key-iterator ×
    (goal.iterator-loop-key).is_finite l.key-iterator ×
    (result_err (variables (members_view l.fn.object.entries)) ≡ result_err (variables (members_view l.key-iterator)))
