use Rattle.iri_normal.proofs.Common.{◌≡◌, ◌&&◌, true, not, sym, ap, subst, is_empty, before, is_path, path-whole, in_form, ends_at_slash, written}
use Rattle.iri_normal.proofs.removal.Buffers.{segment-path}
use Rattle.iri_normal.proofs.removal.LongPaths.{first-path, from-first, more-ends, one-alone, segment-directory}
use Rattle.iri_normal.proofs.ShownTexts.{shows_same}
use Rattle.iri_normal.proofs.remove_dot_segments.show_from_first.Goals as goal

pub show_after-requires-clause-directory : goal.show_after-requires-clause-directory
show_after-requires-clause-directory g c =
    subst (λ d. (ends_at_slash d && not (is_empty d)) ≡ true) (sym c.in-Some.ensures.1) (segment-directory (before 47 c.args.text.now))

pub show_after-requires-clause-cut : goal.show_after-requires-clause-cut
show_after-requires-clause-cut g c =
    more-ends c.args.text.now c.args.more.now c.in-Some.rest.now c.in-Some.ensures.0 c.requires.cut

pub show_after-requires-clause-paths : goal.show_after-requires-clause-paths
show_after-requires-clause-paths g c =
    let s = g.S.Spec.tests in
    let t = c.args.text.now in
    let p = first-path s t c.in-Some.rest.now c.in-Some.ensures.0 c.requires.paths.0 in
    (subst (λ d. is_path s d ≡ true) (sym c.in-Some.ensures.1) (segment-path s (before 47 t) p.0), p.1, c.requires.paths.1)

pub show_part-requires : goal.show_part-requires
show_part-requires g c = path-whole g.S.Spec.tests c.args.text.now g.met.S.Spec.lawful c.requires.paths.0

pub returns-in-Some : goal.returns-in-Some
returns-in-Some g c =
    shows_same (ap (λ l. in_form g.S.Spec.tests c.args.normal (written l c.args.more.now)) (from-first c.args.text.now c.in-Some.rest.now
    c.in-Some.first.now c.in-Some.ensures.0 c.in-Some.ensures.1 c.requires.plain))
    c.show_after.ensures

pub returns-in-None : goal.returns-in-None
returns-in-None g c =
    shows_same (ap (in_form g.S.Spec.tests c.args.normal) (one-alone c.args.text.now c.args.more.now c.in-None.ensures c.requires.plain c.requires.cut))
    c.show_part.ensures
