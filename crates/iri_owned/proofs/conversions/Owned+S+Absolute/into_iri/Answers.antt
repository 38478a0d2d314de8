use Rattle.std.specs.String.{string_bytes}
use Rattle.iri_types.proofs.KindTexts.{absolute-iri}
use Rattle.iri_owned.proofs.conversions.Owned+S+Absolute.into_iri.Goals as goal

pub from_valid-requires : goal.from_valid-requires
from_valid-requires g c = absolute-iri g.S.Spec.tests g.met.S.Spec.lawful (string_bytes c.into_string.result) c.into_string.ensures.valid
