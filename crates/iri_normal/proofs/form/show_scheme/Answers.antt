use Rattle.iri_normal.proofs.Common.{◌∷◌, [], shows_exit, shows_then, lowered}
use Rattle.iri_normal.proofs.normal_forms.ShownParts.{scheme-in}
use Rattle.iri_normal.proofs.ShownTexts.{shows_same}
use Rattle.iri_normal.proofs.form.show_scheme.Goals as goal

pub returns-in_err-show_scheme_name : goal.returns-in_err-show_scheme_name
returns-in_err-show_scheme_name g c =
    shows_same (scheme-in c.args.normal lowered c.args.scheme c.in-Some.scheme c.in-Some.is)
    (shows_exit g.met.W.TextSink.rules (58 ∷ []) c.from_residual.ensures.0 c.in_err-show_scheme_name.ensures)

pub returns : goal.returns
returns g c =
    shows_same (scheme-in c.args.normal lowered c.args.scheme c.in-Some.scheme c.in-Some.is)
    (shows_then g.met.W.TextSink.rules c.in_ok-show_scheme_name.ensures c.put.ensures)
