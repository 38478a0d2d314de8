use Rattle.iri_normal.proofs.Common.{◌≡◌, ◌∙◌, None, sym, subst, ap, ∥∥₁_elim, props, Fits, split_of}
use Rattle.iri_normal.proofs.canonical_texts.WrittenTexts.{view-sound}
use Rattle.iri_normal.proofs.views.in_mode.Goals as goal

pub after-requires-clause-sound : goal.after-requires-clause-sound
after-requires-clause-sound g c =
    let s = g.S.Spec.tests in
    let none : g.K.Kind.fault s c.args.view.text.now ≡ None = ∥∥₁_elim c.args.view.valid (hlevel props) (λ e. e) in
    let parts = c.of-target.ensures.parts in
    view-sound s g.K.Kind.fault c.of-target.result c.args.view.text.now (parts ∙ (c.parts.ensures.split ∙ ap split_of c.of-split.ensures))
    (subst (Fits s) (sym parts) c.parts.ensures.fits) none
