use Rattle.std.proofs.lemmas.List.{drop_all}
use Rattle.iri_template.proofs.VisitsEach.{heard_exit_first, up_to_more, up_to_exit, up_to_end}
use Rattle.iri_template.specs.declared.visitor.Phase.TheVariants.{Done}
use Rattle.iri_calls.specs.Variables.{paired}
use Rattle.iri_calls.proofs.PairLemmas.{next_pair, pair_at, paired-half}
use Rattle.iri_calls.proofs.variables.visit_pairs.Goals as goal

pub returns-in_err-visit_assoc : goal.returns-in_err-visit_assoc
returns-in_err-visit_assoc g c = heard_exit_first g.met.V.Visitor.rules _ Done c.from_residual.ensures.0 c.in_err-visit_assoc.ensures

pub returns-in_err-visit_entry : goal.returns-in_err-visit_entry
returns-in_err-visit_entry g c =
    let ts = c.args.values.now in let i = c.loop-i.i in
    up_to_exit g.met.V.Visitor.rules (pair_at ts i) Done (next_pair ts i c.loop-i-test.true)
    c.from_residual-in_err-visit_entry.ensures.0 c.loop-i.invariant c.in_err-visit_entry.ensures

pub loop-i-preserved : goal.loop-i-preserved
loop-i-preserved g c =
    let ts = c.args.values.now in let i = c.loop-i.i in
    up_to_more g.met.V.Visitor.rules (pair_at ts i) (next_pair ts i c.loop-i-test.true) c.loop-i.invariant c.in_ok-visit_entry.ensures

pub returns : goal.returns
returns g c =
    let ts = c.args.values.now in
    up_to_end g.met.V.Visitor.rules Done (drop_all c.loop-i.i (paired ts) (paired-half ts c.loop-i.i c.loop-i-test.false))
    c.loop-i.invariant c.finish.ensures
