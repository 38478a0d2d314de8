use Rattle.std.proofs.Common.{◌≡◌, None, sym, subst}
use Rattle.std.specs.String.{string_bytes}
use Rattle.iri_grammar.specs.WholeFault.{absolute_fault}
use Rattle.iri_types.proofs.KindTexts.{prefix-absolute}
use Rattle.iri_owned.proofs.conversions.Owned+S+Iri.into_absolute.Goals as goal

pub from_valid-requires : goal.from_valid-requires
from_valid-requires g c =
    subst (λ t. absolute_fault g.S.Spec.tests t ≡ None) (sym c.cut_at_fragment.ensures.text)
    (prefix-absolute g.S.Spec.tests g.met.S.Spec.lawful (string_bytes c.into_string.result) c.into_string.ensures.valid)
