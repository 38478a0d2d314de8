use Rattle.iri_calls.proofs.Common.{◌+◌, length, canonical_in, text, in_grammar}
use Rattle.iri_calls.proofs.BoundLemmas.{in_each, in_each_grammar, short_canonical, where_against}
use Rattle.iri_calls.specs.Numbers.{mode_numbered}
use Rattle.iri_calls.specs.Outcomes.{canonical_as}
use Rattle.iri_calls.proofs.laws.canonical_texts_are_short.Goals as goal

pub returns : goal.returns
returns c = λ grammar mode base reference.
    let most = length base + length reference + 3 in
    in_each most (mode_numbered mode) (λ m. in_grammar grammar (canonical_as m base reference))
    (λ m. in_each_grammar most grammar (canonical_as m base reference)
    (λ s k. where_against most s base reference (text (canonical_in s m base reference)) (short_canonical s m base reference k)))
