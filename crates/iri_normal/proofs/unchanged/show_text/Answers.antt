use Rattle.iri_normal.proofs.Common.{sym}
use Rattle.iri_percent.proofs.forms.PlainTexts.{pct-same}
use Rattle.iri_normal.proofs.ShownTexts.{shows_same}
use Rattle.iri_normal.proofs.unchanged.show_text.Goals as goal

pub returns-then-bare : goal.returns-then-bare
returns-then-bare g c =
    shows_same (sym (pct-same g.S.Spec.tests c.args.text.now (c.requires.bare c.if-bare.true))) c.put.ensures
