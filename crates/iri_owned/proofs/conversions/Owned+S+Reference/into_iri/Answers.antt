use Rattle.std.proofs.Common.{sym, ap, ◌∙◌}
use Rattle.std.specs.String.{string_bytes}
use Rattle.iri_types.proofs.KindTexts.{reference-iri, reference-relative}
use Rattle.iri_owned.proofs.conversions.Owned+S+Reference.into_iri.Goals as goal

pub from_valid-requires : goal.from_valid-requires
from_valid-requires g c =
    reference-iri g.S.Spec.tests g.met.S.Spec.lawful
    (string_bytes c.into_string.result) c.as_slice.result.text.now c.into_string.ensures.valid
    (ap (λ t. t.text) c.into_string.ensures.text ∙ sym c.as_slice.ensures) c.in-Some.field-0.now c.in-Some.ensures

pub from_valid-requires-in-None : goal.from_valid-requires-in-None
from_valid-requires-in-None g c =
    reference-relative g.S.Spec.tests g.met.S.Spec.lawful
    (string_bytes c.into_string-in-None.result) c.as_slice.result.text.now c.into_string-in-None.ensures.valid
    (ap (λ t. t.text) c.into_string-in-None.ensures.text ∙ sym c.as_slice.ensures) c.in-None.ensures
