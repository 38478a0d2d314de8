use Rattle.iri_link.proofs.LaxWalk.{bare_comes, valued_comes}
use Rattle.iri_link.proofs.walk.param_after.Goals as goal

pub returns-in-Some : goal.returns-in-Some
returns-in-Some c =
    valued_comes c.args.whole.now c.args.following.now c.cut_run.result.0.now c.cut_run.result.1.now c.cut_run-2.result.0.now c.cut_run-2.result.1.now c.requires c.cut_run.ensures
    c.cut_run-2.ensures c.param_piece.result c.in-Some.start.now c.cut_value-escapes.result.2.now _ c.in-Some.ensures c.cut_value-escapes.ensures c.param_piece.ensures

pub returns-in-None : goal.returns-in-None
returns-in-None c =
    bare_comes c.args.whole.now c.args.following.now c.cut_run.result.0.now c.cut_run.result.1.now c.cut_run-2.result.0.now c.cut_run-2.result.1.now c.requires c.cut_run.ensures
    c.cut_run-2.ensures c.param_piece-in-None.result c.in-None.ensures c.param_piece-in-None.ensures
