use Rattle.iri_template.proofs.Common.{◌+◌, refl, arith, drop_all, Done}
use Rattle.iri_template.proofs.VisitsEach.{heard_exit_first, up_to_more, up_to_exit, up_to_end, next_at}
use Rattle.iri_template.proofs.visitor.Visitor.visit_assoc_direct.Goals as goal

pub returns-in_err-visit_assoc : goal.returns-in_err-visit_assoc
returns-in_err-visit_assoc g c = heard_exit_first g.met.Self.Visitor.rules _ Done c.from_residual.ensures.0 c.in_err-visit_assoc.ensures

pub returns-in_err-visit_entry : goal.returns-in_err-visit_entry
returns-in_err-visit_entry g c =
    let i = c.loop-entry.entry-index in
    up_to_exit g.met.Self.Visitor.rules c.entry-item.result Done
    (next_at c.args.entries.now i (i + 1) c.entry-item.result c.entry-item.result refl c.loop-entry-test.true c.entry-item.is)
    c.from_residual-in_err-visit_entry.ensures.0 c.loop-entry.invariant c.in_err-visit_entry.ensures

pub loop-entry-preserved : goal.loop-entry-preserved
loop-entry-preserved g c =
    up_to_more g.met.Self.Visitor.rules c.entry-item.result
    (next_at c.args.entries.now c.loop-entry.entry-index _ c.entry-item.result c.entry-item.result (omega arith) c.loop-entry-test.true c.entry-item.is)
    c.loop-entry.invariant c.in_ok-visit_entry.ensures

pub returns : goal.returns
returns g c =
    up_to_end g.met.Self.Visitor.rules Done
    (drop_all c.loop-entry.entry-index c.args.entries.now (omega arith)) c.loop-entry.invariant c.finish.ensures
