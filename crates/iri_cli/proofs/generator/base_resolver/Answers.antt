use Rattle.iri_cli.proofs.Common.{◌≡◌, ◌∙◌, None, ap, refusal}
use Rattle.iri_cli.proofs.GenReferences.{base_taken}
use Rattle.iri_cli.proofs.generator.base_resolver.Goals as goal

pub unreachable-requires : goal.unreachable-requires
unreachable-requires g c =
    let s = g.S.Spec.tests in
    let taken : refusal s c.as_bytes.result.now ≡ None = ap (refusal s) c.as_bytes.ensures.value ∙ base_taken s g.met.S.Spec.lawful in
    cc (taken, c.in-Err.ensures)
