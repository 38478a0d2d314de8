use Rattle.iri_normal.proofs.canonical_texts.CanonicalTexts.{canonical_in-iri, canonical_in-splits, canonical_in-split}
use Rattle.iri_normal.proofs.laws.canonical_text_splits_into_normal_parts.Goals as goal

pub returns : goal.returns
returns g c = record {
  uri = λ m base reference. canonical_in-iri g.S.Spec.tests m base reference g.met.S.Spec.lawful;
  splits = λ m base reference. canonical_in-splits g.S.Spec.tests m base reference g.met.S.Spec.lawful;
  split = λ m base reference. canonical_in-split g.S.Spec.tests m base reference g.met.S.Spec.lawful;
}
