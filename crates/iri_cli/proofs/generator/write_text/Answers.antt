use Rattle.iri_cli.proofs.Common.{◌≡◌, ◌∙◌, ◌++◌, ap, subst, OnOk, string_bytes, split_text, canonical, base_text}
use Rattle.iri_cli.proofs.generator.write_text.Goals as goal

pub returns : goal.returns
returns g c =
    let s = g.S.Spec.tests in
    let b = base_text c.args.resolver in
    let whole = canonical s b (split_text c.in-Ok.reference) in
    subst (λ t. OnOk c.canonical_into.result (string_bytes c.canonical_into.new.dest ≡ t))
    (ap (λ o. o ++ whole) c.clear.ensures.bytes ∙ ap (canonical s b) c.in-Ok.ensures.text) c.canonical_into.ensures.text
