use Rattle.iri_edit.proofs.Common.{◌≡◌, None, subst, sym, text}
use Rattle.std.proofs.Math.Logic.{∥∥₁_elim}
use Rattle.std.proofs.Props.{props}
use Rattle.iri_edit.specs.Shown.{masked_view}
use Rattle.iri_edit.proofs.KindLemmas.{IsWhole}
use Rattle.iri_edit.proofs.UserLemmas.{masked-valid}
use Rattle.iri_edit.proofs.password.PasswordMaskedViewToDedicatedString.try_to_dedicated_string.Goals as goal

pub from_valid-requires : goal.from_valid-requires
from_valid-requires g c =
    let s = g.S.Spec.tests in
    let k = g.met.S.Spec.lawful in
    let kind : IsWhole s g.K.Kind.fault g.K.WholeKind.allows =
    record { whole = g.met.K.WholeKind.whole s k; made = g.met.K.WholeKind.made s k; allowed = g.met.K.WholeKind.allowed s k } in
    let valid = ∥∥₁_elim c.args.self.now.view.valid (hlevel props)
    (masked-valid s g.K.Kind.fault g.K.WholeKind.allows k kind (text (masked_view c.args.self.now))) in
    subst (λ z. g.K.Kind.fault s z ≡ None) (sym c.in_ok-text.ensures) valid
