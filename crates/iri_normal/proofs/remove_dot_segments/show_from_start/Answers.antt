use Rattle.iri_normal.proofs.Common.{◌≡◌, ◌<◌, length, ap, arith, nat_tests, in_form}
use Rattle.iri_normal.proofs.removal.LongPaths.{cut-after, dots-base, dots-reference, path-parts}
use Rattle.iri_normal.proofs.ShownTexts.{shows_same}
use Rattle.iri_normal.proofs.remove_dot_segments.show_from_start.Goals as goal

pub without_first_dots-base-requires : goal.without_first_dots-base-requires
without_first_dots-base-requires g c =
    let p = c.args.path.now in record { path = (path-parts g.S.Spec.tests p.base.now p.reference.now p.cut c.requires).0 }

pub without_first_dots-reference-requires : goal.without_first_dots-reference-requires
without_first_dots-reference-requires g c =
    let p = c.args.path.now in record { path = (path-parts g.S.Spec.tests p.base.now p.reference.now p.cut c.requires).1 }

pub returns-then-is_empty : goal.returns-then-is_empty
returns-then-is_empty g c =
    let p = c.args.path.now in
    let base = c.without_first_dots-base in
    let none : length base.result.now ≡ 0 = grind (arith, nat_tests) in
    shows_same (ap (in_form g.S.Spec.tests c.args.normal) (dots-reference p.base.now p.reference.now base.result.now
    c.without_first_dots-reference.result.now p.cut none base.ensures.same c.without_first_dots-reference.ensures.same))
    c.show_from_first.ensures

pub show_from_first-requires-2-clause-cut : goal.show_from_first-requires-2-clause-cut
show_from_first-requires-2-clause-cut g c =
    let p = c.args.path.now in
    let base = c.without_first_dots-base in
    let some : 0 < length base.result.now = grind (arith, nat_tests) in
    cut-after p.base.now p.reference.now base.result.now p.cut base.ensures.ends some

pub show_from_first-requires-2-clause-paths : goal.show_from_first-requires-2-clause-paths
show_from_first-requires-2-clause-paths g c =
    let p = c.args.path.now in
    (c.without_first_dots-base.ensures.path, (path-parts g.S.Spec.tests p.base.now p.reference.now p.cut c.requires).1)

pub returns : goal.returns
returns g c =
    let p = c.args.path.now in
    let base = c.without_first_dots-base in
    shows_same (ap (in_form g.S.Spec.tests c.args.normal) (dots-base p.base.now p.reference.now base.result.now p.cut base.ensures.same))
    c.show_from_first-2.ensures
