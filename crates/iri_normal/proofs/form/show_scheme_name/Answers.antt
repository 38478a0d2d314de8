use Rattle.iri_normal.proofs.Common.{◌∙◌, cond, sym, ap, normal_host, lowered}
use Rattle.iri_normal.proofs.normal_forms.ShownParts.{scheme-host, scheme-lowered}
use Rattle.iri_normal.proofs.ShownTexts.{shows_same}
use Rattle.iri_normal.proofs.form.show_scheme_name.Goals as goal

pub new-requires : goal.new-requires
new-requires g c = scheme-host g.S.Spec.tests c.args.scheme.now g.met.S.Spec.lawful c.requires

pub returns-then-normal : goal.returns-then-normal
returns-then-normal g c =
    let x = c.args.scheme.now in
    shows_same (ap (normal_host g.S.Spec.tests) c.new.ensures
    ∙ (scheme-lowered g.S.Spec.tests x c.requires ∙ sym (ap (λ b. cond b (lowered x) x) c.if-normal.true))) c.show.ensures
