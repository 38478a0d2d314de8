use Rattle.iri_normal.proofs.Common.{sym, ◌∙◌, absolute-law, reference-law, Default}
use Rattle.iri_normal.proofs.mapping.MappedForms.{mapped-canonical}
use Rattle.iri_normal.proofs.mapping_laws.canonicalize_commutes_with_mapping.Goals as goal

pub returns : goal.returns
returns g c =
    let s = g.S.Spec.tests in
    let k = g.met.S.Spec.lawful in
    let r = c.args.reference.text.now in
    let same = mapped-canonical s Default c.args.base.text.now r k ((absolute-law s k c.args.base.text.now).0 c.in_ok-last.ensures.base)
    ((reference-law s k r).0 c.in_ok-last.ensures.reference) in
    (c.in_ok-last.ensures.text, c.in_ok-first.ensures ∙ (sym same ∙ sym c.in_ok-last.ensures.text))
