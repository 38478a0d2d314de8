use Rattle.iri_normal.proofs.normal_forms.PartsFit.{normal_in-stable}
use Rattle.iri_normal.proofs.laws.normal_form_is_stable.Goals as goal

pub returns : goal.returns
returns g c = λ m parts f. normal_in-stable g.S.Spec.tests m parts g.met.S.Spec.lawful f
