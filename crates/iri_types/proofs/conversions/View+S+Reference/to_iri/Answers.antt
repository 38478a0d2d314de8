use Rattle.iri_types.proofs.KindTexts.{reference-iri, reference-relative}
use Rattle.iri_types.proofs.conversions.View+S+Reference.to_iri.Goals as goal

pub from_valid-requires : goal.from_valid-requires
from_valid-requires g c =
    reference-iri g.S.Spec.tests g.met.S.Spec.lawful c.as_str-text.result.now c.args.self.text.now c.as_str-text.ensures.valid c.as_str-text.ensures.text c.in-Some.field-0.now c.in-Some.ensures

pub from_valid-requires-in-None : goal.from_valid-requires-in-None
from_valid-requires-in-None g c =
    reference-relative g.S.Spec.tests g.met.S.Spec.lawful c.as_str-text.result.now c.args.self.text.now c.as_str-text.ensures.valid c.as_str-text.ensures.text c.in-None.ensures
