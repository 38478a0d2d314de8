use Rattle.iri_normal.proofs.normal_forms.PartsFit.{normal_in-fits}
use Rattle.iri_normal.proofs.laws.normal_form_fits.Goals as goal

pub returns : goal.returns
returns g c = λ m parts f i. normal_in-fits g.S.Spec.tests m parts g.met.S.Spec.lawful f i
