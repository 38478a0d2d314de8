use Rattle.iri_normal.proofs.Common.{shows_exit, shows_then, in_form}
use Rattle.iri_normal.proofs.normal_forms.ShownParts.{delimited-in}
use Rattle.iri_normal.proofs.ShownTexts.{shows_same}
use Rattle.iri_normal.proofs.form.show_delimited.Goals as goal

pub returns-in_err-put : goal.returns-in_err-put
returns-in_err-put g c =
    shows_same (delimited-in g.S.Spec.tests c.args.normal c.args.delimiter.now c.args.code c.args.part c.in-Some.part c.requires.delimiter c.in-Some.is)
    (shows_exit g.met.W.TextSink.rules
    (in_form g.S.Spec.tests c.args.normal c.in-Some.part.now) c.from_residual.ensures.0 c.in_err-put.ensures)

pub returns : goal.returns
returns g c =
    shows_same (delimited-in g.S.Spec.tests c.args.normal c.args.delimiter.now c.args.code c.args.part c.in-Some.part c.requires.delimiter c.in-Some.is)
    (shows_then g.met.W.TextSink.rules c.in_ok-put.ensures c.show_part.ensures)
