use Rattle.iri_link.proofs.LaxWalk.{lax_comma_inside, lax_end_inside, lax_piece_inside}
use Rattle.iri_link.proofs.walk.next_param.Goals as goal

pub returns-in-Some : goal.returns-in-Some
returns-in-Some c =
    lax_piece_inside c.args.s.now c.cut_run.result.0.now c.cut_run.result.1.now c.cut_run.ensures c.param_after.result.0 c.param_after.result.1.now c.param_after.ensures

pub returns-in-Some-past_comma : goal.returns-in-Some-past_comma
returns-in-Some-past_comma c =
    lax_comma_inside c.args.s.now c.cut_run.result.0.now c.cut_run.result.1.now c.cut_run.ensures c.in-Some-past_comma.after.now c.in_default.ensures c.in-Some-past_comma.ensures

pub returns-in-None : goal.returns-in-None
returns-in-None c = lax_end_inside c.args.s.now c.cut_run.result.0.now c.cut_run.result.1.now c.cut_run.ensures c.in_default.ensures c.in-None.ensures
