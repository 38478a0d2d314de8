use Rattle.iri_types.proofs.KindTexts.{absolute-iri}
use Rattle.iri_types.proofs.conversions.View+S+Absolute.as_iri.Goals as goal

pub from_valid-requires : goal.from_valid-requires
from_valid-requires g c = absolute-iri g.S.Spec.tests g.met.S.Spec.lawful c.as_str.result.now c.as_str.ensures.valid
