use Rattle.iri_normal.proofs.canonical_texts.WrittenTexts.{sound-fits}
use Rattle.iri_normal.proofs.normalized.NormalizedTextShow.show.Goals as goal

pub show_form-requires : goal.show_form-requires
show_form-requires g c =
    record { fits = sound-fits g.S.Spec.tests g.K.Kind.fault c.args.self.now.target g.met.S.Spec.lawful c.args.self.now.sound }

pub show_after-requires-clause-fits : goal.show_after-requires-clause-fits
show_after-requires-clause-fits g c =
    sound-fits g.S.Spec.tests g.K.Kind.fault c.args.self.now.target g.met.S.Spec.lawful c.args.self.now.sound
