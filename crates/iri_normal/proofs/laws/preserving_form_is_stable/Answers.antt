use Rattle.iri_normal.proofs.normal_forms.Modes.{preserving-stable}
use Rattle.iri_normal.proofs.laws.preserving_form_is_stable.Goals as goal

pub returns : goal.returns
returns g c = λ whole again parts f. preserving-stable g.S.Spec.tests whole again parts g.met.S.Spec.lawful f
