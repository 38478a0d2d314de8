use Rattle.iri_link.proofs.Common.{sym, subst}
use Rattle.iri_link.proofs.FaultLemmas.{bare_goes, equals_goes, valued_goes}
use Rattle.iri_link.specs.inside.Faults.{IsFault}
use Rattle.iri_link.proofs.fault.past_param.Goals as goal

pub returns-in-Ok : goal.returns-in-Ok
returns-in-Ok c = λ t.
    valued_goes t c.args.s.now c.cut_run.result.0.now c.cut_run.result.1.now c.cut_run.ensures c.in-Some.start.now c.in-Ok.after.now c.in-Some.ensures (c.in-Ok.ensures t)

pub returns-in-Err : goal.returns-in-Err
returns-in-Err c = λ t.
    subst (IsFault c.in-Err.fault) (sym (equals_goes t c.args.s.now c.cut_run.result.0.now c.cut_run.result.1.now c.cut_run.ensures c.in-Some.start.now c.in-Some.ensures)) (c.in-Err.ensures t)

pub returns-in-None : goal.returns-in-None
returns-in-None c = λ t. bare_goes t c.args.s.now c.cut_run.result.0.now c.cut_run.result.1.now c.cut_run.ensures c.in-None.ensures
