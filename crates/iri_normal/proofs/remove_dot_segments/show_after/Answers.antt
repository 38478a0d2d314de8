use Rattle.iri_normal.proofs.Common.{◌≡◌, ◌++◌, ◌∙◌, true, sym, ap, length, subst, shows_exit, shows_then, is_path, pieces, path-whole, popped_times, kept, taken, in_form, refl}
use Rattle.iri_normal.proofs.removal.LongPaths.{directory-ends, form-parent, form-three, times-path}
use Rattle.iri_normal.proofs.ShownTexts.{shows_same}
use Rattle.iri_normal.proofs.remove_dot_segments.show_after.Goals as goal

pub parent_of-parent-requires-clause-known : goal.parent_of-parent-requires-clause-known
parent_of-parent-requires-clause-known g c = λ h.
    c.requires.known h ∙ ap (λ n. length (popped_times (taken (pieces 47 c.args.text.now) n) c.args.directory.now)) (sym c.taken-count.ensures.count)

pub show_part-requires : goal.show_part-requires
show_part-requires g c =
    let s = g.S.Spec.tests in
    let d = c.args.directory.now in
    path-whole s c.parent_of-parent.result.now g.met.S.Spec.lawful (subst (λ l. is_path s l ≡ true) (sym c.parent_of-parent.ensures)
    (times-path s (taken (pieces 47 c.args.text.now) c.taken-count.result) d c.requires.paths.0 (directory-ends d c.requires.directory)))

pub returns-in_err-show_part : goal.returns-in_err-show_part
returns-in_err-show_part g c =
    let s = g.S.Spec.tests in
    let n = c.args.normal in
    let k = c.taken-count.result in
    let tail = in_form s n (kept (pieces 47 c.args.text.now) k) ++ in_form s n (kept (pieces 47 c.args.more.now) 0) in
    shows_same (ap (λ l. l ++ tail) (form-parent s n c.args.bare c.args.directory.now c.parent_of-parent.result.now (taken (pieces 47 c.args.text.now) k) c.requires.bare c.parent_of-parent.ensures)
    ∙ form-three s n c.args.directory.now c.args.text.now c.args.more.now (taken (pieces 47 c.args.text.now) k) k c.requires.directory c.requires.cut
    c.taken-count.ensures.count refl)
    (shows_exit g.met.W.TextSink.rules tail c.from_residual.ensures.0 c.in_err-show_part.ensures)

pub returns-in_err-show_kept : goal.returns-in_err-show_kept
returns-in_err-show_kept g c =
    let s = g.S.Spec.tests in
    let n = c.args.normal in
    let k = c.taken-count.result in
    let last = in_form s n (kept (pieces 47 c.args.more.now) 0) in
    let tail = in_form s n (kept (pieces 47 c.args.text.now) k) ++ last in
    shows_same (ap (λ l. l ++ tail) (form-parent s n c.args.bare c.args.directory.now c.parent_of-parent.result.now (taken (pieces 47 c.args.text.now) k) c.requires.bare c.parent_of-parent.ensures)
    ∙ form-three s n c.args.directory.now c.args.text.now c.args.more.now (taken (pieces 47 c.args.text.now) k) k c.requires.directory c.requires.cut
    c.taken-count.ensures.count refl)
    (shows_then g.met.W.TextSink.rules c.in_ok-show_part.ensures
    (shows_exit g.met.W.TextSink.rules last c.from_residual-in_err-show_kept.ensures.0 c.in_err-show_kept.ensures))

pub returns : goal.returns
returns g c =
    let s = g.S.Spec.tests in
    let n = c.args.normal in
    let k = c.taken-count.result in
    let tail = in_form s n (kept (pieces 47 c.args.text.now) k) ++ in_form s n (kept (pieces 47 c.args.more.now) 0) in
    shows_same (ap (λ l. l ++ tail) (form-parent s n c.args.bare c.args.directory.now c.parent_of-parent.result.now (taken (pieces 47 c.args.text.now) k) c.requires.bare c.parent_of-parent.ensures)
    ∙ form-three s n c.args.directory.now c.args.text.now c.args.more.now (taken (pieces 47 c.args.text.now) k) k c.requires.directory c.requires.cut
    c.taken-count.ensures.count refl)
    (shows_then g.met.W.TextSink.rules c.in_ok-show_part.ensures
    (shows_then g.met.W.TextSink.rules c.in_ok-show_kept.ensures c.show_kept-2.ensures))
