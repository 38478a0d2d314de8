use Rattle.std.proofs.Common.{rules}
use Rattle.iri_normal.proofs.Common.{◌≡◌, true, false, refl, subst, is_some, Parts, parts}
use Rattle.iri_normal.specs.Dots.{has_dot_segment}
use Rattle.iri_normal.specs.inside.Unchanged.{is_plain_prefix}
use Rattle.iri_normal.proofs.segments.DotBytes.{no_dots}
use Rattle.iri_normal.proofs.targets.PlainReferences.{none-noted}
use Rattle.iri_normal.proofs.unchanged.keeps_path.Goals as goal

pub returns-then-is_some : goal.returns-then-is_some
returns-then-is_some g c h =
    let n = c.seen-seen.result in
    let b = parts c.parts-parts.result.now in
    let k = none-noted n.dots n.path_triplets h in
    let stands : is_some b.authority ≡ true = search rules in
    let whole = c.seen-seen.ensures.promises.0 k.1 in
    let none : has_dot_segment b.path ≡ false = no_dots b.path (c.seen-seen.ensures.promises.3 k.0) in
    subst (λ (p : Parts). is_plain_prefix p p.path ≡ true) c.parts-parts.ensures.split (rw (stands, whole, none) refl)
