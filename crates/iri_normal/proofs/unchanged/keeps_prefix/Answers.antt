use Rattle.iri_normal.proofs.targets.PlainReferences.{none-noted, plain-prefix}
use Rattle.iri_normal.proofs.Common.{parts}
use Rattle.iri_normal.proofs.unchanged.keeps_prefix.Goals as goal

pub returns : goal.returns
returns g c h =
    let k = none-noted c.seen-seen.result.capitals c.seen-seen.result.other_authority h in
    let p = c.seen-seen.ensures.promises in
    plain-prefix g.S.Spec.tests (parts c.args.reference.now) c.requires (p.4 k.0).0 (p.4 k.0).1 (p.5 k.1)
