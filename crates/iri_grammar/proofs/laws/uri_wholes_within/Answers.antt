use Rattle.iri_grammar.proofs.faults.UriLaws.{fits-wider, reference-wider, iri-wider, absolute-wider, relative-wider}
use Rattle.iri_grammar.proofs.laws.uri_wholes_within.Goals as goal

pub returns : goal.returns
returns g c = record {
  fits = fits-wider g.S.Spec.tests;
  reference = reference-wider g.S.Spec.tests;
  iri = iri-wider g.S.Spec.tests;
  absolute = absolute-wider g.S.Spec.tests;
  relative = relative-wider g.S.Spec.tests;
}
