use Rattle.iri_percent.specs.inside.EncoderText.{encoder_shown}
use Rattle.iri_percent.proofs.encoder.show_encoded.Goals as goal

pub returns-clause-shows : goal.returns-clause-shows
returns-clause-shows g c = (encoder_shown g.S.Spec.tests g.met.W.TextSink.rules _ _ _ _ c.show.ensures).0
