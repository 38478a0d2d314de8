use Rattle.iri_link.proofs.LaxWalk.{quoted_lax, unquoted_lax}
use Rattle.iri_link.proofs.walk.cut_value.Goals as goal

pub returns-in-Some : goal.returns-in-Some
returns-in-Some c = quoted_lax c.args.s.now c.in-Some.inner.now c.cut_open.result.0.now c.cut_open.result.1.now c.in-Some.ensures c.cut_open.ensures

pub returns-in-None : goal.returns-in-None
returns-in-None c =
    unquoted_lax c.args.s.now c.cut_run.result.0.now c.cut_run.result.1.now c.trim_end.result.now c.requires c.in-None.ensures c.cut_run.ensures c.trim_end.ensures
