use Rattle.iri_normal.proofs.Common.{◌≡◌, ◌∙◌, true, ap, sym, subst, IsUtf8, whole_triplets, dots, merged, lacks, in_form}
use Rattle.iri_normal.proofs.removal.WrittenPaths.{dots_whole}
use Rattle.iri_normal.proofs.normal_forms.Paths.{dots-over}
use Rattle.iri_normal.proofs.targets.Targets.{slash_in_path}
use Rattle.iri_normal.proofs.removal.LongPaths.{form-bare, lacks-take, path-utf8}
use Rattle.iri_normal.proofs.ShownTexts.{shows_same}
use Rattle.iri_normal.proofs.remove_dot_segments.show_short.Goals as goal

pub text_of-requires-clause-utf8 : goal.text_of-requires-clause-utf8
text_of-requires-clause-utf8 g c =
    let p = merged c.args.path.now in
    subst IsUtf8 (sym (rw (c.as_bytes.ensures.value, c.as_bytes-2.ensures.value) at c.put_path-len.ensures.text))
    (path-utf8 g.S.Spec.tests (dots p) (dots-over _ p (slash_in_path g.S.Spec.tests) c.requires.path))

pub show_part-requires : goal.show_part-requires
show_part-requires g c =
    let p = merged c.args.path.now in
    subst (λ l. whole_triplets l ≡ true)
    (sym (c.text_of.ensures ∙ rw (c.as_bytes.ensures.value, c.as_bytes-2.ensures.value) at c.put_path-len.ensures.text))
    (dots_whole g.S.Spec.tests g.met.S.Spec.lawful p c.requires.path)

pub returns : goal.returns
returns g c =
    let s = g.S.Spec.tests in
    let n = c.args.normal in
    shows_same (form-bare s n c.lacks_percent-bare.result c.text_of.result.now
    (λ h. subst (λ l. lacks 37 l ≡ true) (sym c.text_of.ensures)
    (lacks-take c.put_path-len.result c.put_path-len.new.buf (sym c.lacks_percent-bare.ensures ∙ h)))
    ∙ ap (in_form s n) (c.text_of.ensures ∙ rw (c.as_bytes.ensures.value, c.as_bytes-2.ensures.value) at c.put_path-len.ensures.text))
    c.show_part.ensures
