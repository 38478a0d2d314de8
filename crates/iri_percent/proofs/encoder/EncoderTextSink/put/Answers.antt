use Rattle.std.proofs.Common.{refl}
use Rattle.iri_percent.specs.inside.EncoderText.{encoder_put}
use Rattle.iri_percent.proofs.encoder.EncoderTextSink.put.Goals as goal

pub returns : goal.returns
returns g c =
    encoder_put g.S.Spec.tests c.args.self.now _ c.args.piece.now c.put_encoded.result c.utf8.piece refl refl c.put_encoded.ensures
