use Rattle.iri_link.proofs.Common.{◌∙◌, sym, subst}
use Rattle.iri_link.proofs.FaultLemmas.{comma_before, end_before, no_target_before, target_before, over_before}
use Rattle.iri_link.specs.inside.Faults.{IsFault}
use Rattle.iri_link.proofs.fault.past_outside.Goals as goal

pub returns-in-Some : goal.returns-in-Some
returns-in-Some g c = comma_before g.S.Spec.tests c.args.s.now c.cut_run.result.0.now c.cut_run.result.1.now c.cut_run.ensures c.in-Some.after.now c.in-Some.ensures

pub returns-then-is_empty : goal.returns-then-is_empty
returns-then-is_empty g c = end_before g.S.Spec.tests c.args.s.now c.cut_run.result.0.now c.cut_run.result.1.now c.cut_run.ensures (sym c.is_empty.ensures ∙ c.if-is_empty.true)

pub returns-in_default-past : goal.returns-in_default-past
returns-in_default-past g c =
    no_target_before g.S.Spec.tests c.args.s.now c.cut_run.result.0.now c.cut_run.result.1.now c.cut_run.ensures c.in_default-past.ensures c.in_default.ensures (sym c.is_empty.ensures ∙ c.if-is_empty.false)

pub returns-in-Ok : goal.returns-in-Ok
returns-in-Ok g c = target_before g.S.Spec.tests c.args.s.now c.cut_run.result.0.now c.cut_run.result.1.now c.cut_run.ensures c.in-Ok.rest.now c.in-Ok.ensures

pub returns-in-Err : goal.returns-in-Err
returns-in-Err g c =
    subst (IsFault c.in-Err.fault) (sym (over_before g.S.Spec.tests c.args.s.now c.cut_run.result.0.now c.cut_run.result.1.now c.cut_run.ensures)) c.in-Err.ensures
