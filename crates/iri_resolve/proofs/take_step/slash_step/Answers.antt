use Rattle.iri_resolve.proofs.Common.{IfOk-weaker}
use Rattle.iri_resolve.proofs.ReachedLemmas.{slash-reached}
use Rattle.iri_resolve.proofs.take_step.slash_step.Goals as goal

pub returns : goal.returns
returns g c = IfOk-weaker c.with_slash.result _ _
    (λ b h. slash-reached g.S.Spec.tests c.args.mode b c.args.reached.now c.with_slash.new.path c.becomes_slash-becomes.result c.requires
    c.becomes_slash-becomes.ensures h) c.with_slash.ensures
