use Rattle.iri_link.proofs.Common.{◌++◌, Ok, sym, ap, ◌∙◌, subst, append_assoc, append-nil, rules, now_of, escaped}
use Rattle.iri_text.specs.Shown.{Shows}
use Rattle.iri_text.proofs.Compose.{shown_exit, shown_more, shows_all}
use Rattle.iri_link.specs.inside.CutDelimiters.{value_left}
use Rattle.iri_link.proofs.shown_text.show_value.Goals as goal

pub returns-in_err-show_two : goal.returns-in_err-show_two
returns-in_err-show_two g c =
    let i = c.chunks.invariant in
    let piece = escaped c.cut_chunk.result.0.now ++ c.cut_chunk.result.1.now in
    let left = value_left (now_of c.cut_chunk.result.2) in
    subst (λ t. Shows g.W.TextSink.puts g.W.TextSink.halts g.W.TextSink.stops c.args.sink.now t c.show_two.new.sink c.from_residual.result)
    (sym (i.same ∙ (ap (λ l. i.done ++ l) c.cut_chunk.ensures.written ∙ sym (append_assoc i.done piece left))))
    (shown_exit g.met.W.TextSink.rules left c.from_residual.ensures.0 i.shown c.in_err-show_two.ensures)

pub chunks-preserved : goal.chunks-preserved
chunks-preserved g c =
    let i = c.chunks.invariant in
    let piece = escaped c.cut_chunk.result.0.now ++ c.cut_chunk.result.1.now in
    let left = value_left (now_of c.cut_chunk.result.2) in
    record {
      utf8 = search rules;
      done = i.done ++ piece;
      shown = shown_more g.met.W.TextSink.rules i.shown c.in_ok-show_two.ensures;
      same = i.same ∙ (ap (λ l. i.done ++ l) c.cut_chunk.ensures.written ∙ (sym (append_assoc i.done piece left)
          ∙ ap (λ o. (i.done ++ piece) ++ value_left (now_of o)) c.in-Some.is));
    }

pub chunks-smaller : goal.chunks-smaller
chunks-smaller g c = c.cut_chunk.ensures.shorter c.in-Some.next.now (ap now_of c.in-Some.is)

pub returns-in-None : goal.returns-in-None
returns-in-None g c =
    let i = c.chunks.invariant in
    let piece = escaped c.cut_chunk.result.0.now ++ c.cut_chunk.result.1.now in
    let left = value_left (now_of c.cut_chunk.result.2) in
    subst (λ t. Shows g.W.TextSink.puts g.W.TextSink.halts g.W.TextSink.stops c.args.sink.now t c.show_two.new.sink (Ok tt))
    (sym (i.same ∙ (ap (λ l. i.done ++ l) c.cut_chunk.ensures.written ∙ (sym (append_assoc i.done piece left)
    ∙ (ap (λ o. (i.done ++ piece) ++ value_left (now_of o)) c.in-None.is ∙ append-nil (i.done ++ piece))))))
    (shows_all (shown_more g.met.W.TextSink.rules i.shown c.in_ok-show_two.ensures))
