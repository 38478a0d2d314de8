use Rattle.iri_normal.proofs.Common.{◌∙◌, sym, shows_exit, shows_then, dots, in_form, merged}
use Rattle.iri_normal.proofs.normal_forms.PathBeginnings.{unguarded-form, guarded-form}
use Rattle.iri_normal.proofs.removal.WrittenPaths.{dots_whole}
use Rattle.iri_normal.proofs.ShownTexts.{shows_same}
use Rattle.iri_normal.proofs.path_writer.show_guarded.Goals as goal

pub returns-then-not-is_guarded : goal.returns-then-not-is_guarded
returns-then-not-is_guarded g c =
    let p = merged c.args.path.now in
    let w = dots_whole g.S.Spec.tests g.met.S.Spec.lawful p c.requires in
    shows_same (unguarded-form g.S.Spec.tests c.args.normal c.args.authority_stands (dots p) g.met.S.Spec.lawful w
    (sym c.is_guarded.ensures ∙ c.if-not-is_guarded.true)) c.show_without_dots.ensures

pub returns-in_err-put : goal.returns-in_err-put
returns-in_err-put g c =
    let s = g.S.Spec.tests in
    let p = merged c.args.path.now in
    let w = dots_whole s g.met.S.Spec.lawful p c.requires in
    shows_same (guarded-form s c.args.normal c.args.authority_stands (dots p) g.met.S.Spec.lawful w
    (sym c.is_guarded.ensures ∙ c.if-not-is_guarded.false))
    (shows_exit g.met.W.TextSink.rules (in_form s c.args.normal (dots p)) c.from_residual.ensures.0 c.in_err-put.ensures)

pub returns : goal.returns
returns g c =
    let p = merged c.args.path.now in
    let w = dots_whole g.S.Spec.tests g.met.S.Spec.lawful p c.requires in
    shows_same (guarded-form g.S.Spec.tests c.args.normal c.args.authority_stands (dots p) g.met.S.Spec.lawful w
    (sym c.is_guarded.ensures ∙ c.if-not-is_guarded.false))
    (shows_then g.met.W.TextSink.rules c.in_ok-put.ensures c.show_without_dots-2.ensures)
