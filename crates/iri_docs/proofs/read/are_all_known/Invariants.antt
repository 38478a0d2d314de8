use Rattle.iri_docs.proofs.Common.{◌≡◌, members_view}
use Rattle.iri_docs.specs.Documents.{all_known}
use Rattle.iri_docs.proofs.read.are_all_known.Given as goal

abbrev pub invariant-loop-key : goal.invariant-loop-key
invariant-loop-key l =
    (goal.iterator-loop-key).can_next l.key-iterator ×
    (goal.iterator-loop-key).is_finite l.key-iterator ×
    (all_known (members_view l.fn.members.entries) ≡ all_known (members_view l.key-iterator))
