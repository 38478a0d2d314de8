use Rattle.iri_normal.proofs.Common.{sym, ap, path-whole, in_form, merged}
use Rattle.iri_normal.proofs.removal.Stability.{no_dots_same}
use Rattle.iri_normal.proofs.ShownTexts.{shows_same}
use Rattle.iri_normal.proofs.remove_dot_segments.show_without_dots.Goals as goal

pub show_as_it_stands-requires : goal.show_as_it_stands-requires
show_as_it_stands-requires g c = path-whole g.S.Spec.tests (merged c.args.path.now) g.met.S.Spec.lawful c.requires

pub returns-then-lacks_dots : goal.returns-then-lacks_dots
returns-then-lacks_dots g c =
    let p = merged c.args.path.now in
    shows_same (ap (in_form g.S.Spec.tests c.args.normal) (sym
    (no_dots_same p (c.lacks_dots.ensures c.if-lacks_dots.true)))) c.show_as_it_stands.ensures
