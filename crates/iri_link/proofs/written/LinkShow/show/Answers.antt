use Rattle.iri_link.proofs.Common.{subst, string_bytes, flat_map, param_of, written_param}
use Rattle.iri_text.specs.Shown.{Shows}
use Rattle.iri_text.proofs.Compose.{shows_then, shows_exit}
use Rattle.iri_link.proofs.WrittenTexts.{link_shown}
use Rattle.iri_link.proofs.written.LinkShow.show.Goals as goal

pub returns-in_err-show_three : goal.returns-in_err-show_three
returns-in_err-show_three g c =
    let l = c.args.self.now in
    subst (λ t. Shows g.W.TextSink.puts g.W.TextSink.halts g.W.TextSink.stops c.args.sink.now t c.show_three.new.sink c.from_residual.result)
    (link_shown (string_bytes l.target) l.params.items)
    (shows_exit g.met.W.TextSink.rules (flat_map (λ p. written_param (param_of p)) l.params.items) c.from_residual.ensures.0 c.in_err-show_three.ensures)

pub returns : goal.returns
returns g c =
    let l = c.args.self.now in
    subst (λ t. Shows g.W.TextSink.puts g.W.TextSink.halts g.W.TextSink.stops c.args.sink.now t c.show_each.new.sink c.show_each.result)
    (link_shown (string_bytes l.target) l.params.items)
    (shows_then g.met.W.TextSink.rules c.in_ok-show_three.ensures
    (subst (λ ps. Shows g.W.TextSink.puts g.W.TextSink.halts g.W.TextSink.stops c.show_three.new.sink (flat_map (λ p. written_param (param_of p)) ps) c.show_each.new.sink c.show_each.result) c.deref.ensures.value c.show_each.ensures))
