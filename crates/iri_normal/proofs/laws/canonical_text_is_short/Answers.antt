use Rattle.iri_normal.proofs.normal_forms.Lengths.{length-canonical_in}
use Rattle.iri_normal.proofs.laws.canonical_text_is_short.Goals as goal

pub returns : goal.returns
returns g c = λ m base reference. length-canonical_in g.S.Spec.tests m base reference g.met.S.Spec.lawful
