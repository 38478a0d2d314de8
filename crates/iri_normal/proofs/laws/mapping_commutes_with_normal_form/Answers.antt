use Rattle.iri_normal.proofs.mapping.MappedForms.{mapped-normal_in}
use Rattle.iri_normal.proofs.laws.mapping_commutes_with_normal_form.Goals as goal

pub returns : goal.returns
returns g c = λ m t f. mapped-normal_in g.S.Spec.tests m t g.met.S.Spec.lawful f
