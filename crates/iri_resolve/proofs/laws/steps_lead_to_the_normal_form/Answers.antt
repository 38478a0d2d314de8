use Rattle.iri_resolve.proofs.Common.{steps_of}
use Rattle.iri_resolve.proofs.SchemeSteps.{normal_in-leads}
use Rattle.iri_resolve.proofs.laws.steps_lead_to_the_normal_form.Goals as goal

pub returns : goal.returns
returns g c = record {
  these = λ m t f. normal_in-leads g.S.Spec.tests m t g.met.S.Spec.lawful f;
  some = λ m t f. (steps_of g.S.Spec.tests m t, normal_in-leads g.S.Spec.tests m t g.met.S.Spec.lawful f);
}
