use Rattle.iri_normal.proofs.Common.{◌∙◌, ap, recompose}
use Rattle.iri_normal.proofs.normal_forms.Modes.{whole-plain}
use Rattle.iri_normal.specs.Normalized.{written_text}
use Rattle.iri_normal.proofs.ShownTexts.{shows_same}
use Rattle.iri_normal.proofs.target_text.show_target.Goals as goal

pub returns : goal.returns
returns g c =
    let s = g.S.Spec.tests in
    shows_same (ap (written_text s) c.shown.ensures ∙ ap recompose (whole-plain s _)) c.show.ensures
