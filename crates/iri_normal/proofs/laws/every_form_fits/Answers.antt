use Rattle.iri_normal.proofs.normal_forms.Modes.{mode-fits}
use Rattle.iri_normal.proofs.laws.every_form_fits.Goals as goal

pub returns : goal.returns
returns g c = λ mode whole parts f i. mode-fits g.S.Spec.tests mode whole parts g.met.S.Spec.lawful f i
