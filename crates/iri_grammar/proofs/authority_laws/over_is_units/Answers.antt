use Rattle.iri_grammar.proofs.units.ClassLaws.{class_has_no_percent}
use Rattle.iri_grammar.proofs.units.OverLaws.{over-from_units, units-from_over}
use Rattle.iri_grammar.proofs.authority_laws.over_is_units.Goals as goal

pub returns : goal.returns
returns g c = record {
  units = λ p cs n. (λ h. units-from_over p cs h, λ u. over-from_units p cs n u);
  no_percent = class_has_no_percent g.S.Spec.tests g.met.S.Spec.lawful;
}
