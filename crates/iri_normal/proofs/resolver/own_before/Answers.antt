use Rattle.iri_normal.proofs.Common.{parts}
use Rattle.iri_normal.proofs.targets.PlainReferences.{own-put}
use Rattle.iri_normal.proofs.resolver.own_before.Goals as goal

pub returns-then-keeps_prefix : goal.returns-then-keeps_prefix
returns-then-keeps_prefix g c base =
    own-put g.S.Spec.tests base (parts c.args.reference.now) g.met.S.Spec.lawful c.requires.fits c.requires.scheme
    (c.keeps_prefix.ensures c.if-keeps_prefix.true)
