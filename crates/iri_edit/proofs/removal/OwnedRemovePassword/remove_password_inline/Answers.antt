use Rattle.iri_edit.proofs.Common.{◌≡◌, ◌∙◌, None, subst, sym, password_of, IsPasswordAt}
use Rattle.iri_edit.proofs.KindLemmas.{IsWhole}
use Rattle.iri_edit.proofs.UnchangedTexts.{without_password-same}
use Rattle.iri_edit.proofs.SpliceLemmas.{password-removed}
use Rattle.iri_edit.proofs.UserLemmas.{without-valid}
use Rattle.iri_edit.proofs.removal.OwnedRemovePassword.remove_password_inline.Goals as goal

pub returns-in_default-clause-text : goal.returns-in_default-clause-text
returns-in_default-clause-text g c = sym (without_password-same _
    (subst (λ z. password_of z ≡ None) c.reference_of.ensures.text c.in_default.ensures))

pub cut_out-requires-clause-valid : goal.cut_out-requires-clause-valid
cut_out-requires-clause-valid g c =
    let s = g.S.Spec.tests in
    let k = g.met.S.Spec.lawful in
    let kind : IsWhole s g.K.Kind.fault g.K.WholeKind.allows =
    record { whole = g.met.K.WholeKind.whole s k; made = g.met.K.WholeKind.made s k; allowed = g.met.K.WholeKind.allowed s k } in
    let at = subst (λ z. IsPasswordAt z c.in-Some.colon c.in-Some.end) c.reference_of.ensures.text c.in-Some.ensures in
    subst (λ z. g.K.Kind.fault s z ≡ None) (sym (password-removed _ c.in-Some.colon c.in-Some.end at))
    (without-valid s g.K.Kind.fault g.K.WholeKind.allows k kind _ c.reference_of.ensures.valid)

pub returns-clause-text : goal.returns-clause-text
returns-clause-text g c =
    let at = subst (λ z. IsPasswordAt z c.in-Some.colon c.in-Some.end) c.reference_of.ensures.text c.in-Some.ensures in
    c.cut_out.ensures.text ∙ password-removed _ c.in-Some.colon c.in-Some.end at
