use Rattle.iri_normal.proofs.normal_forms.Lengths.{length-form}
use Rattle.iri_normal.proofs.laws.every_form_is_short.Goals as goal

pub returns : goal.returns
returns g c = λ mode whole parts. length-form g.S.Spec.tests mode whole parts g.met.S.Spec.lawful
