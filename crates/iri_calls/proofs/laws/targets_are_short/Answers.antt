use Rattle.iri_calls.proofs.Common.{◌+◌, length, text}
use Rattle.iri_calls.proofs.BoundLemmas.{in_each_grammar, short_target, where_against}
use Rattle.iri_calls.specs.Resolutions.{target_text, target_in}
use Rattle.iri_calls.proofs.laws.targets_are_short.Goals as goal

pub returns : goal.returns
returns c = λ grammar base reference.
    let most = length base + length reference + 1 in
    in_each_grammar most grammar (target_in base reference)
    (λ s k. where_against most s base reference (text (target_text base reference)) (λ b r. short_target base reference))
