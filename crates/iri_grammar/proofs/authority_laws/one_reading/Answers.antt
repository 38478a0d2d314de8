use Rattle.iri_grammar.proofs.authorities.AuthorityLaws.{one_reading, reading_is, authority_law, authority_recomposed}
use Rattle.iri_grammar.proofs.authority_laws.one_reading.Goals as goal

pub returns : goal.returns
returns g c = record {
  unique = one_reading g.S.Spec.tests g.met.S.Spec.lawful;
  value = reading_is g.S.Spec.tests g.met.S.Spec.lawful;
  test = authority_law g.S.Spec.tests g.met.S.Spec.lawful;
  recomposed = authority_recomposed;
}
