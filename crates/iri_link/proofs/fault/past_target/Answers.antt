use Rattle.iri_link.proofs.Common.{◌∙◌, ap, sym, now_of}
use Rattle.iri_link.proofs.FaultLemmas.{bad_target, past_reference}
use Rattle.iri_link.proofs.TargetLemmas.{target_open}
use Rattle.iri_link.proofs.fault.past_target.Goals as goal

pub returns-in_default : goal.returns-in_default
returns-in_default g c =
    target_open g.S.Spec.tests c.args.s.now c.args.inner.now c.requires (sym (ap now_of c.in_default.is) ∙ c.cut.ensures.after)

pub returns-in-Ok : goal.returns-in-Ok
returns-in-Ok g c =
    past_reference g.S.Spec.tests c.args.s.now c.args.inner.now c.cut.result.0.now c.in-Some.after.now c.requires c.cut.ensures.before (sym (ap now_of c.in-Some.is) ∙ c.cut.ensures.after)
    c.in-Ok.ensures.fault

pub returns-in-Err : goal.returns-in-Err
returns-in-Err g c =
    bad_target g.S.Spec.tests c.args.s.now c.args.inner.now c.cut.result.0.now c.in-Some.after.now c.requires c.cut.ensures.before (sym (ap now_of c.in-Some.is) ∙ c.cut.ensures.after)
    _ c.in-Err.ensures.fault
