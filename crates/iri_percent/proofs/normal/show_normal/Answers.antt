use Rattle.iri_percent.proofs.Common.{◌++◌, take, subst, sym, ap, ◌∙◌, shown_more, whole_triplets, Becomes}
use Rattle.iri_percent.proofs.forms.Changes.{boundary, one_change}
use Rattle.iri_percent.proofs.normal.show_normal.Goals as goal

pub range_from-rest-requires : goal.range_from-rest-requires
range_from-rest-requires g c _ =
    let run = c.gather-run in
    let r = subst (λ t. Becomes g.S.Spec.tests c.args.lower t c.in-Some.at run.result.read (take run.result.written run.new.buf))
    c.as_bytes-in-Some.ensures.value run.ensures.becomes in
    (r.within, λ l h. boundary c.loop-at.rest.now c.in-Some.at run.result.read c.loop-at.invariant.utf8 r.some r.last l h)

pub loop-at-preserved : goal.loop-at-preserved
loop-at-preserved g c =
    let i = c.loop-at.invariant in
    let run = c.gather-run in
    let piece = c.from_utf8_unchecked.result.now in
    let r = subst (λ t. Becomes g.S.Spec.tests c.args.lower t c.in-Some.at run.result.read (take run.result.written run.new.buf))
    c.as_bytes-in-Some.ensures.value run.ensures.becomes in
    record {
      done = (i.done ++ c.range.result.now) ++ piece;
      shown = shown_more g.met.W.TextSink.rules (shown_more g.met.W.TextSink.rules i.shown c.in_ok-put_run.ensures) c.in_ok-put.ensures;
      same = one_change g.S.Spec.tests c.args.lower c.args.text.now c.loop-at.rest.now i.done c.range.result.now c.range_from-rest.result.now c.in-Some.at run.result.read piece i.same
          (subst (λ l. Becomes g.S.Spec.tests c.args.lower c.loop-at.rest.now c.in-Some.at run.result.read l) (sym c.from_utf8_unchecked.ensures) r)
          c.range.ensures.value c.range_from-rest.ensures.value;
      whole = ap whole_triplets c.range_from-rest.ensures.value ∙ r.whole;
      utf8 = c.range_from-rest.utf8;
    }
