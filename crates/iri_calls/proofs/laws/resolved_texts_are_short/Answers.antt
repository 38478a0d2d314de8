use Rattle.iri_calls.proofs.Common.{◌+◌, length, text}
use Rattle.iri_calls.proofs.BoundLemmas.{in_each_grammar, short_resolved, where_against}
use Rattle.iri_calls.specs.Resolutions.{resolved, resolved_in}
use Rattle.iri_calls.proofs.laws.resolved_texts_are_short.Goals as goal

pub returns : goal.returns
returns c = λ grammar base reference.
    let most = length base + length reference + 3 in
    in_each_grammar most grammar (resolved_in base reference)
    (λ s k. where_against most s base reference (text (resolved s base reference)) (λ b r. short_resolved s base reference))
