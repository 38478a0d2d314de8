use Rattle.iri_link.proofs.Common.{[], ◌∷◌, ◌++◌, ◌+◌, drop, sym, subst, rules, Ok, link_of, links_of, written, written_link}
use Rattle.iri_text.specs.Shown.{Shows}
use Rattle.iri_text.proofs.Compose.{shown_none, shown_more, shown_exit, shows_all}
use Rattle.iri_link.proofs.WrittenTexts.{left_text, all_left, left-at, left-none}
use Rattle.iri_link.proofs.written.show_links.Goals as goal

pub loop-link-init : goal.loop-link-init
loop-link-init g c = record { utf8 = search rules; done = []; shown = shown_none g.met.W.TextSink.rules c.args.sink.now; same = all_left (links_of c.args.links.now) }

pub returns-in_err-show_two : goal.returns-in_err-show_two
returns-in_err-show_two g c =
    let i = c.loop-link.invariant in
    let same = left-at c.args.links.now c.loop-link.link-index c.link-item.result c.loop-link.between.now i.done (written (links_of c.args.links.now)) c.loop-link-test.true c.link-item.is i.same in
    subst (λ t. Shows g.W.TextSink.puts g.W.TextSink.halts g.W.TextSink.stops c.args.sink.now t c.show_two.new.sink c.from_residual.result) (sym same)
    (shown_exit g.met.W.TextSink.rules (left_text (44 ∷ 32 ∷ []) (links_of (drop (c.loop-link.link-index + 1) c.args.links.now))) c.from_residual.ensures.0 i.shown c.in_err-show_two.ensures)

pub loop-link-preserved : goal.loop-link-preserved
loop-link-preserved g c =
    let i = c.loop-link.invariant in
    record {
      utf8 = search rules;
      done = i.done ++ (c.loop-link.between.now ++ written_link (link_of c.link-item.result));
      shown = shown_more g.met.W.TextSink.rules i.shown c.in_ok-show_two.ensures;
      same = left-at c.args.links.now c.loop-link.link-index c.link-item.result c.loop-link.between.now i.done (written (links_of c.args.links.now)) c.loop-link-test.true c.link-item.is i.same;
    }

pub returns : goal.returns
returns g c =
    let i = c.loop-link.invariant in
    subst (λ t. Shows g.W.TextSink.puts g.W.TextSink.halts g.W.TextSink.stops c.args.sink.now t c.loop-link.sink (Ok tt))
    (left-none c.args.links.now c.loop-link.link-index c.loop-link.between.now i.done (written (links_of c.args.links.now)) c.loop-link-test.false i.same)
    (shows_all i.shown)
