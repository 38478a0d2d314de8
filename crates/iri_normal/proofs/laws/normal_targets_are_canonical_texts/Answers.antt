use Rattle.iri_normal.proofs.canonical_texts.CanonicalTexts.{written-canonical}
use Rattle.iri_normal.proofs.laws.normal_targets_are_canonical_texts.Goals as goal

pub returns : goal.returns
returns g c = λ m whole base reference. written-canonical g.S.Spec.tests m whole base reference
