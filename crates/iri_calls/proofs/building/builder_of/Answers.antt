use Rattle.iri_calls.proofs.Common.{◌≡◌, ◌+◌, ◌∙◌, ap, arith, drop, refl, subst, suc, sym, given_by, given_from}
use Rattle.iri_edit.specs.Builders.{given}
use Rattle.iri_calls.proofs.BuildingLemmas.{given-next, given-done}
use Rattle.iri_calls.proofs.building.builder_of.Goals as goal

pub loop-part-init : goal.loop-part-init
loop-part-init c = ap (λ g. given_from g c.args.parts.now) c.new-builder.ensures

pub loop-part-preserved : goal.loop-part-preserved
loop-part-preserved c =
    let ps = c.args.parts.now in
    let i = c.loop-part.part-index in
    let next : suc i ≡ i + 1 = omega arith in
    subst (λ n. given_from (given c.set_part.new.builder) (drop n ps) ≡ given_by ps) next
    (ap (λ g. given_from g (drop (suc i) ps)) c.set_part.ensures
    ∙ (sym (given-next ps i (given c.loop-part.builder) _ _ c.loop-part-test.true refl) ∙ c.loop-part.invariant))

pub returns : goal.returns
returns c = sym (given-done c.args.parts.now c.loop-part.part-index (given c.loop-part.builder) (omega (arith, c.loop-part-test.false)))
    ∙ c.loop-part.invariant
