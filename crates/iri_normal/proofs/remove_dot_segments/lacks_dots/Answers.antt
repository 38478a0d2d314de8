use Rattle.iri_normal.proofs.Common.{◌∙◌, ap, refl, sym, not-true, may_have_dots}
use Rattle.iri_normal.proofs.segments.DotBytes.{no_dots}
use Rattle.iri_normal.proofs.segments.CutPaths.{dot_in_parts}
use Rattle.iri_normal.proofs.remove_dot_segments.lacks_dots.Goals as goal

pub returns-then-path : goal.returns-then-path
returns-then-path c h =
    let p = c.args.path.now in
    let first = no_dots p.reference.now (ap may_have_dots (sym c.as_bytes.ensures.value)
    ∙ c.may_have_dots.ensures c.if-may_have_dots.false) in
    dot_in_parts p.base.now p.reference.now p.cut ∙ rw (first, p.noted h) refl

pub returns-else-path : goal.returns-else-path
returns-else-path c h =
    let p = c.args.path.now in
    let first = no_dots p.reference.now (ap may_have_dots (sym c.as_bytes.ensures.value)
    ∙ c.may_have_dots.ensures c.if-may_have_dots.false) in
    let second = no_dots p.base.now (ap may_have_dots (sym c.as_bytes-else-path.ensures.value)
    ∙ c.may_have_dots-else-path.ensures (not-true c.may_have_dots-else-path.result h)) in
    dot_in_parts p.base.now p.reference.now p.cut ∙ rw (first, second) refl
