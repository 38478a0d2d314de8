use Rattle.iri_percent.proofs.Common.{◌++◌, sym, ◌∙◌, subst, Shows, shown_more, shown_exit, triplets}
use Rattle.iri_text.proofs.Compose.{shown_then}
use Rattle.iri_percent.proofs.coding.SpelledTriplets.{triplets_split}
use Rattle.iri_percent.proofs.spelling.put_triplets.Goals as goal

pub returns-in_err-put_few : goal.returns-in_err-put_few
returns-in_err-put_few g c =
    let i = c.loop-rest.invariant in
    let same = i.same
    ∙ triplets_split i.done c.loop-rest.rest.now c.split_at.result.0.now c.split_at.result.1.now 8 c.split_at.ensures.front c.split_at.ensures.back in
    subst (λ l. Shows g.W.TextSink.puts g.W.TextSink.halts g.W.TextSink.stops c.args.sink.now l c.put_few.new.sink c.from_residual.result) (sym same)
    (shown_exit g.met.W.TextSink.rules (triplets c.split_at.result.1.now) c.from_residual.ensures.0 i.shown c.in_err-put_few.ensures)

pub loop-rest-preserved : goal.loop-rest-preserved
loop-rest-preserved g c =
    let i = c.loop-rest.invariant in
    record {
      done = i.done ++ triplets c.split_at.result.0.now;
      shown = shown_more g.met.W.TextSink.rules i.shown c.in_ok-put_few.ensures;
      same = i.same
          ∙ triplets_split i.done c.loop-rest.rest.now c.split_at.result.0.now c.split_at.result.1.now 8 c.split_at.ensures.front c.split_at.ensures.back;
    }

pub returns : goal.returns
returns g c =
    subst (λ l. Shows g.W.TextSink.puts g.W.TextSink.halts g.W.TextSink.stops c.args.sink.now l c.put_some.new.sink c.put_some.result)
    (sym c.loop-rest.invariant.same)
    (shown_then g.met.W.TextSink.rules c.loop-rest.invariant.shown c.put_some.ensures)
