use Rattle.iri_normal.proofs.Common.{shows_exit, shows_then, in_form}
use Rattle.iri_normal.proofs.removal.WrittenPaths.{whole_parts, form-parts}
use Rattle.iri_normal.proofs.ShownTexts.{shows_same}
use Rattle.iri_normal.proofs.remove_dot_segments.show_as_it_stands.Goals as goal

pub show_part-requires : goal.show_part-requires
show_part-requires g c = let p = c.args.path.now in (whole_parts p.base.now p.reference.now p.cut c.requires).0

pub show_part-requires-2 : goal.show_part-requires-2
show_part-requires-2 g c = let p = c.args.path.now in (whole_parts p.base.now p.reference.now p.cut c.requires).1

pub returns-in_err-show_part : goal.returns-in_err-show_part
returns-in_err-show_part g c =
    let p = c.args.path.now in
    shows_same (form-parts g.S.Spec.tests c.args.normal p.base.now p.reference.now p.cut)
    (shows_exit g.met.W.TextSink.rules (in_form g.S.Spec.tests c.args.normal p.reference.now) c.from_residual.ensures.0 c.in_err-show_part.ensures)

pub returns : goal.returns
returns g c =
    let p = c.args.path.now in
    shows_same (form-parts g.S.Spec.tests c.args.normal p.base.now p.reference.now p.cut)
    (shows_then g.met.W.TextSink.rules c.in_ok-show_part.ensures c.show_part-2.ensures)
