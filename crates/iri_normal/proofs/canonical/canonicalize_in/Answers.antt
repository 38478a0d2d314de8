use Rattle.iri_types.specs.SplitText.{split_text}
use Rattle.iri_normal.proofs.canonical_texts.CanonicalTexts.{all_canonical}
use Rattle.iri_normal.proofs.canonical.canonicalize_in.Goals as goal

pub returns-in-Ok-clause-text : goal.returns-in-Ok-clause-text
returns-in-Ok-clause-text g c =
    all_canonical g.S.Spec.tests c.args.mode g.met.S.Spec.lawful c.args.base.now
    (split_text c.in-Ok.base) c.args.reference.now c.in-Ok.ensures.text c.in-Ok.ensures.fault c.canonicalize_against.result c.canonicalize_against.ensures
