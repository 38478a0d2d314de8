use Rattle.iri_edit.proofs.Common.{◌≡◌, ◌∙◌, true, subst, sym, ◌&&◌, IfOk, is_some, string_bytes, given}
use Rattle.iri_edit.proofs.BuiltLemmas.{normal-built, normal-iri}
use Rattle.iri_edit.proofs.builder.Builder.normal_where_asked.Goals as goal

pub normal_text-requires : goal.normal_text-requires
normal_text-requires g c =
    let b = given c.args.self.now in
    let asked : (b.normal && is_some b.scheme) ≡ true = sym c.is_normal.ensures ∙ c.if-is_normal.true in
    normal-iri g.S.Spec.tests g.met.S.Spec.lawful b c.deref.result.now c.requires.fits (c.deref.ensures ∙ c.requires.text) asked

pub returns-then-is_normal : goal.returns-then-is_normal
returns-then-is_normal g c =
    let b = given c.args.self.now in
    let asked : (b.normal && is_some b.scheme) ≡ true = sym c.is_normal.ensures ∙ c.if-is_normal.true in
    let e = normal-built g.S.Spec.tests g.met.S.Spec.lawful b c.deref.result.now c.requires.fits
    (c.deref.ensures ∙ c.requires.text) asked in
    subst (λ z. IfOk c.normal_text.result (λ t. string_bytes t ≡ z)) e c.normal_text.ensures
