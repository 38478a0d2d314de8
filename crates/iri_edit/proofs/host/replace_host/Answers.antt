use Rattle.iri_edit.proofs.Common.{◌+◌, length, subst, sym, IsCharBoundary}
use Rattle.iri_edit.proofs.host.replace_host.Goals as goal

pub range-requires-clause-start_boundary : goal.range-requires-clause-start_boundary
range-requires-clause-start_boundary g c =
    let r = rw c.in-Ok-Some.field-0-is at c.in-Ok-Some.ensures in
    λ _. subst (λ z. IsCharBoundary z c.in-Ok-Some.start) (sym c.as_str.ensures.text) r.3

pub range-requires-clause-end_boundary : goal.range-requires-clause-end_boundary
range-requires-clause-end_boundary g c =
    let r = rw c.in-Ok-Some.field-0-is at c.in-Ok-Some.ensures in
    subst (λ z. IsCharBoundary z (c.in-Ok-Some.start + length c.args.new_host.now)) (sym c.as_str.ensures.text) r.4
