use Rattle.iri_normal.proofs.canonical_texts.CanonicalTexts.{canonical_in-own}
use Rattle.iri_normal.proofs.laws.canonical_text_is_its_own.Goals as goal

pub returns : goal.returns
returns g c = λ m base reference other. canonical_in-own g.S.Spec.tests m base reference other g.met.S.Spec.lawful
