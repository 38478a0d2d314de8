use Rattle.iri_resolve.proofs.SchemeSteps.{step_in-kept}
use Rattle.iri_resolve.proofs.laws.steps_keep_the_normal_form.Goals as goal

pub returns : goal.returns
returns g c = record {
  fits = λ m t u x f i h. let k = step_in-kept g.S.Spec.tests m t u x g.met.S.Spec.lawful (record { fits = f; scheme = i }) h in
      (k.fits, k.scheme);
  form = λ m t u x f i h. (step_in-kept g.S.Spec.tests m t u x g.met.S.Spec.lawful (record { fits = f; scheme = i }) h).form;
}
