use Rattle.iri_normal.proofs.Common.{◌∙◌, ap, parts, lacks, not-true}
use Rattle.iri_normal.proofs.targets.Targets.{merge-bare}
use Rattle.iri_normal.proofs.directory.is_bare.Goals as goal

pub returns-then-not-seen : goal.returns-then-not-seen
returns-then-not-seen c h =
    ap (lacks 37) c.requires ∙ merge-bare (parts c.args.base.now) (c.seen.ensures.promises.0 (not-true c.seen.result.path_triplets h))
