use Rattle.std.proofs.Common.{◌≡◌, None, sym, subst}
use Rattle.iri_grammar.specs.WholeFault.{absolute_fault}
use Rattle.iri_types.proofs.KindTexts.{prefix-absolute}
use Rattle.iri_types.proofs.conversions.View+S+Iri.to_absolute.Goals as goal

pub from_valid-requires : goal.from_valid-requires
from_valid-requires g c =
    subst (λ t. absolute_fault g.S.Spec.tests t ≡ None) (sym c.cut.ensures.before)
    (prefix-absolute g.S.Spec.tests g.met.S.Spec.lawful c.as_str.result.now c.as_str.ensures.valid)
