use Rattle.iri_normal.proofs.canonical_texts.WrittenTexts.{target-sound}
use Rattle.iri_normal.proofs.resolver.FixedBaseResolver.shown.Goals as goal

pub after-requires-clause-sound : goal.after-requires-clause-sound
after-requires-clause-sound g c =
    target-sound g.S.Spec.tests c.slices.result g.met.S.Spec.lawful c.slices.ensures.fits c.slices.ensures.scheme
