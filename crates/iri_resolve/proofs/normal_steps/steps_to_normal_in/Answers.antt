use Rattle.iri_resolve.proofs.Common.{◌++◌, ◌∙◌, ap, steps_of, replayed_in}
use Rattle.iri_normal.specs.Slices.{slices}
use Rattle.iri_resolve.proofs.SchemeSteps.{normal_in-leads}
use Rattle.iri_resolve.proofs.normal_steps.steps_to_normal_in.Goals as goal

pub returns-clause-list : goal.returns-clause-list
returns-clause-list g c =
    c.in-Ok.ensures.appends ∙ ap (λ l. l ++ steps_of g.S.Spec.tests c.args.mode (slices c.slices-parts.result)) c.new-steps.ensures
    ∙ ap (steps_of g.S.Spec.tests c.args.mode) c.slices-parts.ensures.parts

pub returns-clause-leads : goal.returns-clause-leads
returns-clause-leads g c =
    ap (replayed_in g.S.Spec.tests c.args.mode c.args.target.now) (returns-clause-list g c)
    ∙ normal_in-leads g.S.Spec.tests c.args.mode c.args.target.now g.met.S.Spec.lawful c.slices-parts.ensures.fits
