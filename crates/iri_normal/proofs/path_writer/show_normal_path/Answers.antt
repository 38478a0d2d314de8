use Rattle.iri_normal.proofs.Common.{◌≡◌, ◌∙◌, sym, ap, is_some, now_of, pct, dots, guard, merged}
use Rattle.iri_normal.proofs.removal.WrittenPaths.{is_some-now_of, path_is}
use Rattle.iri_normal.proofs.ShownTexts.{shows_same}
use Rattle.iri_normal.proofs.path_writer.show_normal_path.Goals as goal

pub returns : goal.returns
returns g c =
    let t = c.args.target.now in
    let p = merged t.path in
    let stands : c.is_some-stands.result ≡ is_some (now_of t.authority) = c.is_some-stands.ensures ∙ sym (is_some-now_of t.authority) in
    shows_same (ap (guard (pct g.S.Spec.tests (dots p))) stands ∙ path_is g.S.Spec.tests (now_of t.authority) p) c.show_guarded.ensures
