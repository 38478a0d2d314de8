use Rattle.iri_normal.proofs.canonical_texts.WrittenTexts.{sound-fits}
use Rattle.iri_normal.proofs.normalized.NormalizedText.ensure_rfc3986_normalizable.Goals as goal

pub is_unresolvable-requires : goal.is_unresolvable-requires
is_unresolvable-requires g c =
    (sound-fits g.S.Spec.tests g.K.Kind.fault c.args.self.now.target g.met.S.Spec.lawful c.args.self.now.sound).path
