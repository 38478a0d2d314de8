use Rattle.iri_text.proofs.Compose.{shows_exit, shows_then}
use Rattle.iri_edit.proofs.ShownLemmas.{delimited-some}
use Rattle.iri_normal.proofs.ShownTexts.{shows_same}
use Rattle.iri_edit.proofs.recomposed.show_delimited.Goals as goal

pub returns-in_err-put : goal.returns-in_err-put
returns-in_err-put g c =
    shows_same (delimited-some c.args.delimiter.now c.args.code c.args.part c.in-Some.part c.requires c.in-Some.is)
    (shows_exit g.met.W.TextSink.rules c.in-Some.part.now c.from_residual.ensures.0 c.in_err-put.ensures)

pub returns : goal.returns
returns g c =
    shows_same (delimited-some c.args.delimiter.now c.args.code c.args.part c.in-Some.part c.requires c.in-Some.is)
    (shows_then g.met.W.TextSink.rules c.in_ok-put.ensures c.put-2.ensures)
