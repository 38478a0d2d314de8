use Rattle.iri_calls.proofs.Common.{◌+◌, ◌*◌, length, arith, canonical_in, iri_tests, text}
use Rattle.iri_grammar.specs.inside.Laws.{iri_is_spec}
use Rattle.iri_percent.specs.Mapping.{mapped}
use Rattle.iri_calls.proofs.BoundLemmas.{in_each, short_canonical, short_mapped, where_against}
use Rattle.iri_calls.specs.Numbers.{mode_numbered}
use Rattle.iri_calls.specs.Outcomes.{uri_as}
use Rattle.iri_calls.proofs.laws.canonical_uris_are_short.Goals as goal

pub returns : goal.returns
returns c = λ mode base reference.
    let most = 3 * (length base + length reference + 3) in
    in_each most (mode_numbered mode) (λ m. uri_as m base reference)
    (λ m. let t = canonical_in iri_tests m base reference in
    where_against most iri_tests base reference (text (mapped t))
    (λ b r. let short = short_canonical iri_tests m base reference iri_is_spec b r in
    let triple = short_mapped t in
    omega (arith, short, triple)))
