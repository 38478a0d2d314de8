use Rattle.iri_link.proofs.Common.{◌∙◌, ap, sym, now_of}
use Rattle.iri_link.proofs.LaxWalk.{lax_comma_before, lax_end_before, lax_open_before, lax_target_before}
use Rattle.iri_link.proofs.walk.next_target.Goals as goal

pub returns-in-Some-past_comma : goal.returns-in-Some-past_comma
returns-in-Some-past_comma c =
    lax_comma_before c.args.s.now c.cut_run.result.0.now c.cut_run.result.1.now c.cut_run.ensures c.in-Some-past_comma.after.now c.in_default.ensures c.in-Some-past_comma.ensures

pub returns-in-None : goal.returns-in-None
returns-in-None c = lax_end_before c.args.s.now c.cut_run.result.0.now c.cut_run.result.1.now c.cut_run.ensures c.in_default.ensures c.in-None.ensures

pub returns-in-Some-rest : goal.returns-in-Some-rest
returns-in-Some-rest c =
    lax_target_before c.args.s.now c.cut_run.result.0.now c.cut_run.result.1.now c.cut_run.ensures c.in-Some.inner.now c.cut.result.0 c.in-Some-rest.after.now c.in-Some.ensures c.cut.ensures.before
    (sym (ap now_of c.in-Some-rest.is) ∙ c.cut.ensures.after)

pub returns-in-None-rest : goal.returns-in-None-rest
returns-in-None-rest c =
    lax_open_before c.args.s.now c.cut_run.result.0.now c.cut_run.result.1.now c.cut_run.ensures c.in-Some.inner.now c.in-Some.ensures (sym (ap now_of c.in-None-rest.is) ∙ c.cut.ensures.after)
