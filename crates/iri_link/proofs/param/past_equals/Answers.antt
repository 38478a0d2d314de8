use Rattle.iri_link.proofs.ParamLemmas.{equals_read}
use Rattle.iri_link.proofs.param.past_equals.Goals as goal

pub returns-in-Some : goal.returns-in-Some
returns-in-Some c = equals_read c.args.s.now c.cut_run.result.0.now c.cut_run.result.1.now c.in-Some.following.now c.cut_run-in-Some.result.0.now c.cut_run-in-Some.result.1.now c.cut_run.ensures c.in-Some.ensures c.cut_run-in-Some.ensures

pub returns-in-None : goal.returns-in-None
returns-in-None c = record { a = c.cut_run.result.0.now; rest = c.cut_run.result.1.now; run = c.cut_run.ensures; none = c.in-None.ensures }
