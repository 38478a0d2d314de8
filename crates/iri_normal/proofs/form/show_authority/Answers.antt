use Rattle.iri_normal.proofs.Common.{cond, now_of, shows_exit, shows_then, normal_authority_in}
use Rattle.iri_normal.proofs.normal_forms.ShownParts.{authority-in}
use Rattle.iri_normal.proofs.ShownTexts.{shows_same}
use Rattle.iri_normal.proofs.form.show_authority.Goals as goal

pub returns-in_err-put : goal.returns-in_err-put
returns-in_err-put g c =
    let a = c.in-Some.authority.now in
    shows_same (authority-in c.args.normal (normal_authority_in g.S.Spec.tests (now_of c.args.dropped)) c.args.authority c.in-Some.authority c.in-Some.is)
    (shows_exit g.met.W.TextSink.rules (cond c.args.normal
    (normal_authority_in g.S.Spec.tests (now_of c.args.dropped) a) a) c.from_residual.ensures.0 c.in_err-put.ensures)

pub returns : goal.returns
returns g c =
    shows_same (authority-in c.args.normal (normal_authority_in g.S.Spec.tests (now_of c.args.dropped)) c.args.authority c.in-Some.authority c.in-Some.is)
    (shows_then g.met.W.TextSink.rules c.in_ok-put.ensures c.show_authority_name.ensures)
