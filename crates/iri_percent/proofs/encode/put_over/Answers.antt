use Rattle.iri_percent.proofs.Common.{◌++◌, Ok, sym, ap, ◌∙◌, subst, append-nil, class_test, Shows, shown_more, shown_exit, shows_all}
use Rattle.iri_percent.proofs.Common.{encoded, run_text}
use Rattle.iri_percent.proofs.coding.EncodedRuns.{encoded-none, run_shown}
use Rattle.iri_percent.proofs.encode.put_over.Goals as goal

pub returns-in_err-put_run : goal.returns-in_err-put_run
returns-in_err-put_run g c =
    let i = c.loop-next.invariant in
    let p = class_test g.S.Spec.tests c.args.class in
    let r = c.in-Some.next in
    subst (λ l. Shows g.W.TextSink.puts g.W.TextSink.halts g.W.TextSink.stops c.args.sink.now l c.put_run.new.sink c.from_residual.result)
    (sym (i.same ∙ run_shown p r.stands i.done c.loop-next.rest.now r.text.now r.rest.now c.in-Some.ensures.is_run))
    (shown_exit g.met.W.TextSink.rules (encoded p r.rest.now) c.from_residual.ensures.0 i.shown c.in_err-put_run.ensures)

pub loop-next-preserved : goal.loop-next-preserved
loop-next-preserved g c =
    let i = c.loop-next.invariant in
    let p = class_test g.S.Spec.tests c.args.class in
    let r = c.in-Some.next in
    record {
      utf8 = c.in-Some.ensures.is_run.utf8;
      done = i.done ++ run_text r.stands r.text.now;
      shown = shown_more g.met.W.TextSink.rules i.shown c.in_ok-put_run.ensures;
      same = i.same ∙ run_shown p r.stands i.done c.loop-next.rest.now r.text.now r.rest.now c.in-Some.ensures.is_run;
    }

pub returns : goal.returns
returns g c =
    let i = c.loop-next.invariant in
    let p = class_test g.S.Spec.tests c.args.class in
    subst (λ l. Shows g.W.TextSink.puts g.W.TextSink.halts g.W.TextSink.stops c.args.sink.now l c.loop-next.sink (Ok tt))
    (sym (i.same ∙ ap (λ l. i.done ++ l) (encoded-none p c.loop-next.rest.now c.in_default.ensures) ∙ append-nil i.done))
    (shows_all i.shown)
