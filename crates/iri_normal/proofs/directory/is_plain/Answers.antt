use Rattle.iri_normal.proofs.Common.{◌∙◌, ap, parts, has_dot_segment, not-true}
use Rattle.iri_normal.proofs.segments.DotBytes.{no_dots}
use Rattle.iri_normal.proofs.targets.Targets.{merge-plain}
use Rattle.iri_normal.proofs.directory.is_plain.Goals as goal

pub returns-then-not-seen : goal.returns-then-not-seen
returns-then-not-seen c h =
    let b = parts c.args.base.now in
    ap has_dot_segment c.requires ∙ merge-plain b (no_dots b.path (c.seen.ensures.promises.3 (not-true c.seen.result.dots h)))
