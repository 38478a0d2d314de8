use Rattle.iri_link.proofs.Common.{[], ◌++◌, Ok, sym, ◌∙◌, subst, rules, base_text}
use Rattle.iri_text.specs.Shown.{Shows}
use Rattle.iri_text.proofs.Compose.{shown_none, shown_exit, shown_more, shows_all}
use Rattle.iri_link.specs.inside.Pieces.{left_at, stands}
use Rattle.iri_link.specs.inside.ShownPieces.{piece_text, place_past}
use Rattle.iri_link.specs.inside.PlainParams.{params_text}
use Rattle.iri_link.proofs.PlainLemmas.{none_left}
use Rattle.iri_link.proofs.ShownLemmas.{to_show, left_later, left_past, all_shown, written_left}
use Rattle.iri_link.proofs.shown_text.show_text.Goals as goal

pub pieces-init : goal.pieces-init
pieces-init g c = record {
  utf8 = search rules;
  done = [];
  shown = shown_none g.met.W.TextSink.rules c.args.sink.now;
  same = to_show g.S.Spec.tests c.args.mode (base_text c.args.resolver.now) c.args.text.now;
}

pub returns-in_err-show_piece-in-Some : goal.returns-in_err-show_piece-in-Some
returns-in_err-show_piece-in-Some g c =
    let s = g.S.Spec.tests in
    let mode = c.args.mode in
    let base = base_text c.args.resolver.now in
    let i = c.pieces.invariant in
    let x = c.in-Some.piece in
    let rest = c.in-Some.after.now in
    subst (λ t. Shows g.W.TextSink.puts g.W.TextSink.halts g.W.TextSink.stops c.args.sink.now t c.show_piece.new.sink c.from_residual.result)
    (sym (left_past s mode base _ i.done c.pieces.place c.pieces.inside c.pieces.rest.now i.same rest x c.in-Some.ensures))
    (shown_exit g.met.W.TextSink.rules (written_left s mode base (place_past s c.pieces.place x) (left_at (stands x) rest)) c.from_residual.ensures.0 i.shown
    c.in_err-show_piece-in-Some.ensures.shows)

pub returns-in_err-show_plain-in-Some : goal.returns-in_err-show_plain-in-Some
returns-in_err-show_plain-in-Some g c =
    let s = g.S.Spec.tests in
    let mode = c.args.mode in
    let base = base_text c.args.resolver.now in
    let i = c.pieces.invariant in
    let place = c.show_piece.new.place in
    let inside = c.is_inside-inside.result in
    let left = c.cut_plain.result.1.now in
    subst (λ t. Shows g.W.TextSink.puts g.W.TextSink.halts g.W.TextSink.stops c.args.sink.now t c.show_plain.new.sink c.from_residual-in_err-show_plain-in-Some.result)
    (sym (left_later s mode base _ i.done c.pieces.place c.pieces.inside c.pieces.rest.now i.same c.in-Some.after.now c.in-Some.piece c.in-Some.ensures
    place inside c.in_ok-show_piece-in-Some.ensures.place c.is_inside-inside.ensures c.cut_plain.result.0.now left c.cut_plain.ensures))
    (shown_exit g.met.W.TextSink.rules (written_left s mode base place (left_at inside left)) c.from_residual-in_err-show_plain-in-Some.ensures.0
    (shown_more g.met.W.TextSink.rules i.shown c.in_ok-show_piece-in-Some.ensures.shows) c.in_err-show_plain-in-Some.ensures)

pub pieces-preserved : goal.pieces-preserved
pieces-preserved g c =
    let s = g.S.Spec.tests in
    let mode = c.args.mode in
    let base = base_text c.args.resolver.now in
    let i = c.pieces.invariant in
    let x = c.in-Some.piece in
    let place = c.show_piece.new.place in
    record {
      utf8 = search rules;
      done = (i.done ++ piece_text s mode base c.pieces.place x) ++ params_text place c.cut_plain.result.0.now;
      shown = shown_more g.met.W.TextSink.rules (shown_more g.met.W.TextSink.rules i.shown c.in_ok-show_piece-in-Some.ensures.shows) c.in_ok-show_plain-in-Some.ensures;
      same = left_later s mode base _ i.done c.pieces.place c.pieces.inside c.pieces.rest.now i.same c.in-Some.after.now x c.in-Some.ensures
          place c.is_inside-inside.result c.in_ok-show_piece-in-Some.ensures.place c.is_inside-inside.ensures c.cut_plain.result.0.now c.cut_plain.result.1.now c.cut_plain.ensures;
    }

pub returns-then-is_empty : goal.returns-then-is_empty
returns-then-is_empty g c =
    let i = c.pieces.invariant in
    subst (λ t. Shows g.W.TextSink.puts g.W.TextSink.halts g.W.TextSink.stops c.args.sink.now t c.pieces.sink (Ok tt))
    (all_shown g.S.Spec.tests c.args.mode (base_text c.args.resolver.now) _ i.done c.pieces.place c.pieces.inside c.pieces.rest.now i.same
    (none_left c.pieces.inside c.pieces.rest.now (sym c.is_empty.ensures ∙ c.if-is_empty.true)))
    (shows_all i.shown)

pub returns-in-None : goal.returns-in-None
returns-in-None g c =
    let i = c.pieces.invariant in
    subst (λ t. Shows g.W.TextSink.puts g.W.TextSink.halts g.W.TextSink.stops c.args.sink.now t c.pieces.sink (Ok tt))
    (all_shown g.S.Spec.tests c.args.mode (base_text c.args.resolver.now) _ i.done c.pieces.place c.pieces.inside c.pieces.rest.now i.same c.in-None.ensures)
    (shows_all i.shown)
