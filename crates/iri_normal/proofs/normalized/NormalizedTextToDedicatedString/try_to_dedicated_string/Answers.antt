use Rattle.iri_normal.proofs.Common.{◌≡◌, None, sym, subst, slices}
use Rattle.iri_normal.proofs.canonical_texts.WrittenTexts.{sound-fits, sound-valid}
use Rattle.iri_normal.proofs.normalized.NormalizedTextToDedicatedString.try_to_dedicated_string.Goals as goal

pub from_valid-requires : goal.from_valid-requires
from_valid-requires g c =
    let s = g.S.Spec.tests in
    let n = c.args.self.now in
    subst (λ x. g.K.Kind.fault s x ≡ None) (sym c.in_ok-text.ensures)
    (c.forms_are_valid.ensures s g.met.S.Spec.lawful n.mode n.whole (slices n.target)
    (sound-fits s g.K.Kind.fault n.target g.met.S.Spec.lawful n.sound) (sound-valid s g.K.Kind.fault n.target n.sound))
