use Rattle.iri_link.proofs.Common.{◌∙◌, sym, subst}
use Rattle.iri_link.proofs.FaultLemmas.{comma_inside, end_inside, no_param_inside, over_semicolon, semicolon_inside}
use Rattle.iri_link.specs.inside.Faults.{IsFault}
use Rattle.iri_link.proofs.fault.past_inside.Goals as goal

pub returns-in-Ok : goal.returns-in-Ok
returns-in-Ok c = λ t.
    semicolon_inside t c.args.s.now c.cut_run.result.0.now c.cut_run.result.1.now c.cut_run.ensures c.in-Some.following.now c.in-Ok.rest.now c.in-Some.ensures (c.in-Ok.ensures t)

pub returns-in-Err : goal.returns-in-Err
returns-in-Err c = λ t.
    subst (IsFault c.in-Err.fault) (sym (over_semicolon t c.args.s.now c.cut_run.result.0.now c.cut_run.result.1.now c.cut_run.ensures c.in-Some.following.now c.in-Some.ensures)) (c.in-Err.ensures t)

pub returns-in-Some-past : goal.returns-in-Some-past
returns-in-Some-past c = λ t. comma_inside t c.args.s.now c.cut_run.result.0.now c.cut_run.result.1.now c.cut_run.ensures c.in-Some-past.after.now c.in-Some-past.ensures

pub returns-then-is_empty : goal.returns-then-is_empty
returns-then-is_empty c = λ t. end_inside t c.args.s.now c.cut_run.result.0.now c.cut_run.result.1.now c.cut_run.ensures (sym c.is_empty.ensures ∙ c.if-is_empty.true)

pub returns : goal.returns
returns c = λ t.
    no_param_inside t c.args.s.now c.cut_run.result.0.now c.cut_run.result.1.now c.cut_run.ensures c.in_default.ensures c.in_default-past.ensures (sym c.is_empty.ensures ∙ c.if-is_empty.false)
