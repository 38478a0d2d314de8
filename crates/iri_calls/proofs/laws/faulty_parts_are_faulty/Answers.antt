use Rattle.iri_calls.proofs.Common.{Some, fragment_fault, split_of, relative_split_of, reference_fault, iri_fault, absolute_fault}
use Rattle.iri_calls.proofs.Common.{UnexpectedFragment, recompose_split, recompose_relative_split}
use Rattle.iri_grammar.specs.WholeFault.{relative_fault}
use Rattle.iri_calls.proofs.FaultLemmas.{of_bytes, of_first, of_parts, of_parts_without_fragment}
use Rattle.iri_calls.proofs.laws.faulty_parts_are_faulty.Goals as goal

pub returns-clause-reference : goal.returns-clause-reference
returns-clause-reference g c = λ t kind.
    let s = g.S.Spec.tests in
    of_bytes s (reference_fault s) t (split_of t) kind (of_parts s t (split_of t) (recompose_split t) kind)

pub returns-clause-iri : goal.returns-clause-iri
returns-clause-iri g c = λ t kind.
    let s = g.S.Spec.tests in
    of_bytes s (iri_fault s) t (split_of t) kind
    (of_first s t (split_of t) (recompose_split t) kind (fragment_fault s) (of_parts s t (split_of t) (recompose_split t) kind))

pub returns-clause-absolute : goal.returns-clause-absolute
returns-clause-absolute g c = λ t kind.
    let s = g.S.Spec.tests in
    of_bytes s (absolute_fault s) t (split_of t) kind
    (of_first s t (split_of t) (recompose_split t) kind (λ _. Some UnexpectedFragment)
    (of_parts_without_fragment s t (split_of t) (recompose_split t) kind))

pub returns-clause-relative : goal.returns-clause-relative
returns-clause-relative g c = λ t kind.
    let s = g.S.Spec.tests in
    of_bytes s (relative_fault s) t (relative_split_of t) kind (of_parts s t (relative_split_of t) (recompose_relative_split t) kind)
