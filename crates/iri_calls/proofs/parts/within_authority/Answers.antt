use Rattle.iri_calls.proofs.Common.{ap, arith, width}
use Rattle.iri_grammar.specs.OptionalSlices.{now_of}
use Rattle.iri_calls.proofs.SlotLemmas.{authority_total_parts}
use Rattle.iri_calls.proofs.parts.within_authority.Goals as goal

pub authority_slots-requires : goal.authority_slots-requires
authority_slots-requires c =
    let shown = ap (λ o. width 2 (now_of o)) c.in-Some.is in
    omega (arith, c.requires, shown, authority_total_parts c.in-Some.authority.now)
