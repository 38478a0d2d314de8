use Rattle.iri_edit.proofs.Common.{◌≡◌, ◌∙◌, [], None, subst, sym, refl, append-nil, IsFragmentAt}
use Rattle.iri_edit.proofs.FragmentLemmas.{fragment-removed}
use Rattle.iri_edit.proofs.KindLemmas.{IsWhole, fragment-valid}
use Rattle.iri_edit.proofs.fragment.remove_fragment.Goals as goal

pub cut_out-requires : goal.cut_out-requires
cut_out-requires g c =
    let s = g.S.Spec.tests in
    let k = g.met.S.Spec.lawful in
    let kind : IsWhole s g.K.Kind.fault g.K.WholeKind.allows =
    record { whole = g.met.K.WholeKind.whole s k; made = g.met.K.WholeKind.made s k; allowed = g.met.K.WholeKind.allowed s k } in
    let at = subst
    (λ z. IsFragmentAt z c.fragment_at-start.result.0 c.fragment_at-start.result.1) c.reference_of.ensures.text c.fragment_at-start.ensures in
    let valid = c.reference_of.ensures.valid in
    let none = fragment-valid s g.K.Kind.fault g.K.WholeKind.allows k kind g.met.K.FragmentKind.free_fragment None refl _ valid in
    let text = at.replaces [] ∙ (append-nil _ ∙ sym (fragment-removed s k _ (kind.whole _ valid))) in
    record { ordered = at.ordered; low = at.low; high = at.high; valid = subst (λ z. g.K.Kind.fault s z ≡ None) (sym text) none }

pub returns-clause-text : goal.returns-clause-text
returns-clause-text g c =
    let k = g.met.S.Spec.lawful in
    let at = subst
    (λ z. IsFragmentAt z c.fragment_at-start.result.0 c.fragment_at-start.result.1) c.reference_of.ensures.text c.fragment_at-start.ensures in
    c.cut_out.ensures.text ∙ (at.replaces [] ∙ (append-nil _
    ∙ sym (fragment-removed g.S.Spec.tests k _ (g.met.K.WholeKind.whole g.S.Spec.tests k _ c.reference_of.ensures.valid))))
