use Rattle.iri_template.proofs.VisitsEach.{heard_exit_first, up_to_more, up_to_exit, up_to_end}
use Rattle.iri_template.specs.declared.visitor.Phase.TheVariants.{Done}
use Rattle.iri_template.proofs.naive.BTreeMapVisitValueNaive.visit_value.Goals as goal

pub returns-in_err-visit_assoc : goal.returns-in_err-visit_assoc
returns-in_err-visit_assoc g c = heard_exit_first g.met.V.Visitor.rules _ Done c.from_residual.ensures.0 c.in_err-visit_assoc.ensures

pub loop-key-preserved : goal.loop-key-preserved
loop-key-preserved g c = up_to_more g.met.V.Visitor.rules
    (c.in-Some.key.now, c.in-Some.value.now) c.in-Some.ensures.steps c.loop-key.invariant c.in_ok-visit_entry.ensures

pub returns-in_err-visit_entry : goal.returns-in_err-visit_entry
returns-in_err-visit_entry g c = up_to_exit g.met.V.Visitor.rules (c.in-Some.key.now, c.in-Some.value.now) Done
    c.in-Some.ensures.steps c.from_residual-in_err-visit_entry.ensures.0 c.loop-key.invariant c.in_err-visit_entry.ensures

pub returns : goal.returns
returns g c = up_to_end g.met.V.Visitor.rules Done c.in-None.ensures.steps.0 c.loop-key.invariant c.finish.ensures
