use Rattle.std.proofs.Common.{sym}
use Rattle.std.proofs.Math.Logic.{∥∥₁_elim}
use Rattle.std.proofs.Props.{props}
use Rattle.iri_types.proofs.KindTexts.{prefix-joined}
use Rattle.iri_owned.proofs.conversions.Owned+S+Iri.into_absolute_and_fragment.Goals as goal

pub returns-in-Ok-clause-joined : goal.returns-in-Ok-clause-joined
returns-in-Ok-clause-joined g c =
    rw (c.into_absolute.ensures.text, c.in-Ok.ensures, c.fragment.ensures, sym c.as_slice.ensures)
    (∥∥₁_elim c.as_slice.result.valid (hlevel props)
    (λ valid. prefix-joined g.S.Spec.tests g.met.S.Spec.lawful c.as_slice.result.text.now valid))
