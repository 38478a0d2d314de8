use Rattle.iri_template.proofs.Common.{◌≡◌, ◌||◌, false, [], ◌∷◌, Ok, Err, has_some, EndsAs}
use Rattle.iri_template.specs.inside.Checked.{state_texts, state_portion}
use Rattle.iri_template.proofs.WriterEnds.{where_next, ends_mistyped, ends_written, goes_on_written, ends_stopped}
use Rattle.iri_template.proofs.expansion_writer.tell_next.Goals as goal

pub returns-in-Ok-clause-written : goal.returns-in-Ok-clause-written
returns-in-Ok-clause-written g c =
    let s = g.S.Spec.tests in
    let w = g.W.TextSink in
    let a = c.args.visitor.now in
    let h = c.in-Ok.ensures.visit in
    where_next (g.C.DynamicContext.tells c.args.context.now) a.state.name.text.now h.value
    (λ v. EndsAs w.puts w.halts (state_portion s c.args.at a.state false v ∷ []) a.to.now c.visit_dynamic.new.visitor.to.now (Err c.new.result)) h.next
    (ends_mistyped s a h.value c.requires.right c.requires.first w.puts w.halts w.stops c.visit_dynamic.new.visitor c.args.at c.new.result
    c.new.ensures c.if-visitor.true h.visits.tells)

pub returns-in-Ok-2-clause-written : goal.returns-in-Ok-2-clause-written
returns-in-Ok-2-clause-written g c =
    let s = g.S.Spec.tests in
    let w = g.W.TextSink in
    let a = c.args.visitor.now in
    let h = c.in-Ok-2.ensures.visit in
    where_next (g.C.DynamicContext.tells c.args.context.now) a.state.name.text.now h.value
    (λ v. EndsAs w.puts w.halts (state_portion s c.args.at a.state false v ∷ []) a.to.now c.visit_dynamic.new.visitor.to.now (Ok tt)) h.next
    (ends_written s a h.value c.requires.right c.requires.first w.puts w.halts w.stops c.visit_dynamic.new.visitor c.args.at tt
    c.if-visitor.false h.visits.tells)

pub returns-in-Ok-2-clause-goes_on : goal.returns-in-Ok-2-clause-goes_on
returns-in-Ok-2-clause-goes_on g c =
    let w = g.W.TextSink in
    let a = c.args.visitor.now in
    let h = c.in-Ok-2.ensures.visit in
    where_next (g.C.DynamicContext.tells c.args.context.now) a.state.name.text.now h.value
    (λ v. c.visit_dynamic.new.visitor.state.written ≡ (a.state.written || has_some (state_texts g.S.Spec.tests a.state v))) h.next
    (goes_on_written g.S.Spec.tests a h.value c.requires.right c.requires.first w.puts w.halts w.stops c.visit_dynamic.new.visitor
    c.if-visitor.false h.visits.tells)

pub returns-in-Err-clause-written : goal.returns-in-Err-clause-written
returns-in-Err-clause-written g c =
    let w = g.W.TextSink in
    let a = c.args.visitor.now in
    let h = c.in-Err.ensures.visit in
    where_next (g.C.DynamicContext.tells c.args.context.now) a.state.name.text.now h.value
    (λ v. EndsAs w.puts w.halts (state_portion g.S.Spec.tests c.args.at a.state false v ∷ []) a.to.now c.visit_dynamic.new.visitor.to.now
    (Err c.new-in-Err.result)) h.next
    (ends_stopped g.S.Spec.tests a h.value c.requires.right c.requires.first w.puts w.halts w.stops c.visit_dynamic.new.visitor g.met.W.TextSink.rules
    c.args.at c.new-in-Err.result c.new-in-Err.ensures h.visits.tells)
