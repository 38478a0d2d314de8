use Rattle.iri_normal.proofs.mapping.MappedForms.{mapped-canonical}
use Rattle.iri_normal.proofs.laws.mapping_commutes_with_canonical_texts.Goals as goal

pub returns : goal.returns
returns g c = λ m base reference b r. mapped-canonical g.S.Spec.tests m base reference g.met.S.Spec.lawful b r
