use Rattle.iri_normal.proofs.Common.{◌≡◌, ◌∙◌, [], refl, sym, ap, length, in_form, nothing_over, path_char, pieces, popped_times, taken}
use Rattle.iri_normal.proofs.segments.DotKinds.{nothing-is_no_dot}
use Rattle.iri_normal.proofs.removal.LongPaths.{directory-of, dots-directory, path-parts}
use Rattle.iri_normal.proofs.ShownTexts.{shows_same}
use Rattle.iri_normal.proofs.remove_dot_segments.show_long.Goals as goal

pub show_after-requires-clause-directory : goal.show_after-requires-clause-directory
show_after-requires-clause-directory g c =
    let p = c.args.path.now in
    let h = c.has_plain_directory.ensures c.if-has_plain_directory.true in
    directory-of p.base.now p.reference.now p.cut h.0 h.1

pub show_after-requires-clause-known : goal.show_after-requires-clause-known
show_after-requires-clause-known g c =
    let p = c.args.path.now in
    let none : taken (pieces 47 []) 0 ≡ 0 = rw nothing-is_no_dot refl in
    λ h. p.above h ∙ ap (λ n. length (popped_times (taken (pieces 47 p.reference.now) n) p.base.now)) (sym none)

pub show_after-requires-clause-paths : goal.show_after-requires-clause-paths
show_after-requires-clause-paths g c =
    let s = g.S.Spec.tests in
    let p = c.args.path.now in
    let k = path-parts s p.base.now p.reference.now p.cut c.requires in
    (k.0, k.1, nothing_over (path_char s))

pub returns-then-has_plain_directory : goal.returns-then-has_plain_directory
returns-then-has_plain_directory g c =
    let p = c.args.path.now in
    let h = c.has_plain_directory.ensures c.if-has_plain_directory.true in
    shows_same (ap (in_form g.S.Spec.tests c.args.normal) (dots-directory p.base.now p.reference.now p.cut h.2)) c.show_after.ensures
