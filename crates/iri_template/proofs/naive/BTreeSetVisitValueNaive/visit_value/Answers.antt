use Rattle.iri_template.proofs.VisitsEach.{heard_exit_first, up_to_more, up_to_exit, up_to_end}
use Rattle.iri_template.specs.declared.visitor.Phase.TheVariants.{Done}
use Rattle.iri_template.proofs.naive.BTreeSetVisitValueNaive.visit_value.Goals as goal

pub returns-in_err-visit_list : goal.returns-in_err-visit_list
returns-in_err-visit_list g c = heard_exit_first g.met.V.Visitor.rules _ Done c.from_residual.ensures.0 c.in_err-visit_list.ensures

pub loop-item-preserved : goal.loop-item-preserved
loop-item-preserved g c =
    up_to_more g.met.V.Visitor.rules c.in-Some.item.now c.in-Some.ensures.steps c.loop-item.invariant c.in_ok-visit_item.ensures

pub returns-in_err-visit_item : goal.returns-in_err-visit_item
returns-in_err-visit_item g c =
    up_to_exit g.met.V.Visitor.rules c.in-Some.item.now Done c.in-Some.ensures.steps c.from_residual-in_err-visit_item.ensures.0 c.loop-item.invariant c.in_err-visit_item.ensures

pub returns : goal.returns
returns g c =
    up_to_end g.met.V.Visitor.rules Done c.in-None.ensures.steps.0 c.loop-item.invariant c.finish.ensures
