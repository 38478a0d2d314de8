use Rattle.iri_link.proofs.Common.{subst, arith, IsCharBoundary-after_ascii}
use Rattle.iri_link.specs.inside.Pieces.{IsCommaAt}
use Rattle.iri_link.proofs.walk.past_comma.Goals as goal

pub range_from-requires : goal.range_from-requires
range_from-requires c _ =
    let k = subst (λ t. IsCommaAt t c.in-Some.i) c.as_bytes.ensures.value c.in-Some.ensures in
    IsCharBoundary-after_ascii c.args.s.now c.in-Some.i c.utf8.s k.inside (omega (arith, k.comma))
