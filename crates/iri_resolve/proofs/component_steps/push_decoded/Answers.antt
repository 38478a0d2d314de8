use Rattle.iri_resolve.proofs.Common.{HostLetter, step_if, shows_exit, shows_then}
use Rattle.iri_resolve.proofs.component_steps.push_decoded.Goals as goal

pub returns-in_err-push : goal.returns-in_err-push
returns-in_err-push g c =
    shows_exit g.met.T.StepSink.rules (step_if c.args.is_capital (HostLetter c.args.at)) c.from_residual.ensures.0 c.in_err-push.ensures

pub returns : goal.returns
returns g c = shows_then g.met.T.StepSink.rules c.in_ok-push.ensures c.push_letter.ensures
