use Rattle.iri_resolve.proofs.Common.{Some, ◌∙◌, ap, now_of, dropped_port}
use Rattle.iri_resolve.proofs.ReachedLemmas.{dropped-reached}
use Rattle.iri_resolve.proofs.take_step.default_port_step.Goals as goal

pub returns : goal.returns
returns g c =
    dropped-reached g.S.Spec.tests c.args.mode c.without_dropped_port.result c.args.reached.now (now_of c.dropped_port-dropped.result)
    c.without_dropped_port.new.authority (c.dropped_port-dropped.ensures ∙ ap (λ t. dropped_port c.args.mode (Some t)) c.as_str.ensures.value)
    c.without_dropped_port.ensures
