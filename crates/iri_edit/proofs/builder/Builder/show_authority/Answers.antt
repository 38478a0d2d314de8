use Rattle.std.specs.Prelude.{unwrap_or}
use Rattle.iri_edit.proofs.Common.{[], ◌++◌, ◌∙◌, refl, sym, delimited, given}
use Rattle.iri_text.proofs.Compose.{shows_exit, shows_then}
use Rattle.iri_edit.specs.inside.Rules.{ended}
use Rattle.iri_edit.proofs.ShownLemmas.{authority-given}
use Rattle.iri_normal.proofs.ShownTexts.{shows_same}
use Rattle.iri_edit.proofs.builder.Builder.show_authority.Goals as goal

pub returns-in_err-put : goal.returns-in_err-put
returns-in_err-put g c =
    let b = given c.args.self.now in
    shows_same (authority-given b (unwrap_or b.host []) refl (sym c.has_authority.ensures ∙ c.if-not-has_authority.false))
    (shows_exit g.met.W.TextSink.rules (ended 64 b.userinfo ++ (unwrap_or b.host [] ++ delimited 58 b.port)) c.from_residual.ensures.0
    c.in_err-put.ensures)

pub returns-in_err-show_ended : goal.returns-in_err-show_ended
returns-in_err-show_ended g c =
    let b = given c.args.self.now in
    shows_same (authority-given b (unwrap_or b.host []) refl (sym c.has_authority.ensures ∙ c.if-not-has_authority.false))
    (shows_then g.met.W.TextSink.rules c.in_ok-put.ensures
    (shows_exit g.met.W.TextSink.rules (unwrap_or b.host [] ++ delimited 58 b.port) c.from_residual-in_err-show_ended.ensures.0
    c.in_err-show_ended.ensures))

pub returns-in_err-put-2 : goal.returns-in_err-put-2
returns-in_err-put-2 g c =
    let b = given c.args.self.now in
    shows_same (authority-given b c.or_nothing.result.now c.or_nothing.ensures (sym c.has_authority.ensures ∙ c.if-not-has_authority.false))
    (shows_then g.met.W.TextSink.rules c.in_ok-put.ensures (shows_then g.met.W.TextSink.rules c.in_ok-show_ended.ensures
    (shows_exit g.met.W.TextSink.rules (delimited 58 b.port) c.from_residual-in_err-put-2.ensures.0 c.in_err-put-2.ensures)))

pub returns : goal.returns
returns g c =
    let b = given c.args.self.now in
    shows_same (authority-given b c.or_nothing.result.now c.or_nothing.ensures (sym c.has_authority.ensures ∙ c.if-not-has_authority.false))
    (shows_then g.met.W.TextSink.rules c.in_ok-put.ensures (shows_then g.met.W.TextSink.rules c.in_ok-show_ended.ensures
    (shows_then g.met.W.TextSink.rules c.in_ok-put-2.ensures c.show_delimited.ensures)))
