use Rattle.iri_normal.proofs.Common.{◌||◌, or_parts}
use Rattle.iri_normal.proofs.targets.PlainReferences.{none-noted}
use Rattle.iri_normal.proofs.unchanged.lacks_triplets.Goals as goal

pub returns : goal.returns
returns c h =
    let n = c.seen-seen.result in
    let k = none-noted (n.path_triplets || n.query_triplets) n.fragment_triplets h in
    let l = or_parts n.path_triplets n.query_triplets k.0 in
    let p = c.seen-seen.ensures.promises in
    (p.0 l.0, p.1 l.1, p.2 k.1)
