use Rattle.iri_register.proofs.Common.{◌∙◌, ◌++◌, ap, base_text}
use Rattle.iri_types.specs.SplitText.{split_text}
use Rattle.iri_normal.specs.NormalForm.{canonical_in}
use Rattle.iri_register.proofs.register.write_target.Goals as goal

pub returns-in-Ok-canonical_into_in-clause-text : goal.returns-in-Ok-canonical_into_in-clause-text
returns-in-Ok-canonical_into_in-clause-text g c =
    let s = g.S.Spec.tests in
    let b = base_text c.args.resolver.now in
    let whole = canonical_in s c.args.mode b (split_text c.in-Ok.reference) in
    c.in-Ok-canonical_into_in.ensures.text ∙ (ap (λ o. o ++ whole) (c.reserve.ensures.bytes ∙ c.clear.ensures.bytes) ∙ ap (canonical_in s c.args.mode b) c.in-Ok.ensures.text)
