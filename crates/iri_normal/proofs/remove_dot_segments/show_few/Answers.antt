use Rattle.iri_normal.proofs.Common.{◌≡◌, ◌∷◌, ◌∙◌, drop, true, sym, ap, subst, IsUtf8, pieces, whole_triplets, path-whole, kept, in_form}
use Rattle.iri_normal.proofs.removal.KeptSegments.{kept-path}
use Rattle.iri_normal.proofs.removal.LongPaths.{path-utf8}
use Rattle.iri_normal.proofs.ShownTexts.{shows_same}
use Rattle.iri_normal.proofs.remove_dot_segments.show_few.Goals as goal

pub text_of-requires-clause-utf8 : goal.text_of-requires-clause-utf8
text_of-requires-clause-utf8 g c =
    let s = g.S.Spec.tests in
    let t = c.args.text.now in
    let text = c.put_kept-len.ensures.text ∙ ap (λ l. 47 ∷ kept (pieces 47 l) c.args.count) c.as_bytes.ensures.value in
    subst IsUtf8 (sym (ap (drop 1) text)) (path-utf8 s (kept (pieces 47 t) c.args.count) (kept-path s t c.args.count c.requires.path))

pub show_part-requires : goal.show_part-requires
show_part-requires g c =
    let s = g.S.Spec.tests in
    let t = c.args.text.now in
    let text = c.put_kept-len.ensures.text ∙ ap (λ l. 47 ∷ kept (pieces 47 l) c.args.count) c.as_bytes.ensures.value in
    subst (λ l. whole_triplets l ≡ true) (sym (c.text_of.ensures ∙ ap (drop 1) text))
    (path-whole s (kept (pieces 47 t) c.args.count) g.met.S.Spec.lawful (kept-path s t c.args.count c.requires.path))

pub returns : goal.returns
returns g c =
    let text = c.put_kept-len.ensures.text ∙ ap (λ l. 47 ∷ kept (pieces 47 l) c.args.count) c.as_bytes.ensures.value in
    shows_same (ap (in_form g.S.Spec.tests c.args.normal) (c.text_of.ensures ∙ ap (drop 1) text)) c.show_part.ensures
