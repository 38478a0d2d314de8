use Rattle.iri_grammar.proofs.faults.UriLaws.{authority-wider, userinfo-wider, host-wider, reg_name-wider, path-wider, path_segment-wider}
use Rattle.iri_grammar.proofs.faults.UriLaws.{query-wider, fragment-wider}
use Rattle.iri_grammar.proofs.laws.uri_components_within.Goals as goal

pub returns : goal.returns
returns g c = record {
  authority = authority-wider g.S.Spec.tests;
  userinfo = userinfo-wider g.S.Spec.tests;
  host = host-wider g.S.Spec.tests;
  reg_name = reg_name-wider g.S.Spec.tests;
  path = path-wider g.S.Spec.tests;
  path_segment = path_segment-wider g.S.Spec.tests;
  query = query-wider g.S.Spec.tests;
  fragment = fragment-wider g.S.Spec.tests;
}
