use Rattle.iri_template.proofs.Common.{◌+◌, refl, arith, drop_all, Done}
use Rattle.iri_template.proofs.VisitsEach.{heard_exit_first, up_to_more, up_to_exit, up_to_end, next_at}
use Rattle.iri_template.proofs.visitor.Visitor.visit_list_direct.Goals as goal

pub returns-in_err-visit_list : goal.returns-in_err-visit_list
returns-in_err-visit_list g c = heard_exit_first g.met.Self.Visitor.rules _ Done c.from_residual.ensures.0 c.in_err-visit_list.ensures

pub returns-in_err-visit_item : goal.returns-in_err-visit_item
returns-in_err-visit_item g c =
    let i = c.loop-item.item-index in
    up_to_exit g.met.Self.Visitor.rules c.item-item.result Done
    (next_at c.args.items.now i (i + 1) c.item-item.result c.item-item.result refl c.loop-item-test.true c.item-item.is)
    c.from_residual-in_err-visit_item.ensures.0 c.loop-item.invariant c.in_err-visit_item.ensures

pub loop-item-preserved : goal.loop-item-preserved
loop-item-preserved g c =
    up_to_more g.met.Self.Visitor.rules c.item-item.result
    (next_at c.args.items.now c.loop-item.item-index _ c.item-item.result c.item-item.result (omega arith) c.loop-item-test.true c.item-item.is)
    c.loop-item.invariant c.in_ok-visit_item.ensures

pub returns : goal.returns
returns g c =
    up_to_end g.met.Self.Visitor.rules Done
    (drop_all c.loop-item.item-index c.args.items.now (omega arith)) c.loop-item.invariant c.finish.ensures
