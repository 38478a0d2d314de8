use Rattle.iri_template.proofs.Common.{arith, get_or, IsCharBoundary-after_ascii}
use Rattle.iri_grammar.proofs.units.FirstUnits.{hex_is_ascii}
use Rattle.iri_template.proofs.Prefixes.{triplet_hex}
use Rattle.iri_template.proofs.part.read_triplet.Goals as goal

pub range-requires-clause-end_boundary : goal.range-requires-clause-end_boundary
range-requires-clause-end_boundary c =
    let t = c.args.s.now in
    let k = triplet_hex t c.requires in
    IsCharBoundary-after_ascii t 2 c.utf8.s (omega (arith, k.0)) (hex_is_ascii (get_or t 2 0) k.1)

pub range_from-requires : goal.range_from-requires
range_from-requires c _ =
    let t = c.args.s.now in
    let k = triplet_hex t c.requires in
    IsCharBoundary-after_ascii t 2 c.utf8.s (omega (arith, k.0)) (hex_is_ascii (get_or t 2 0) k.1)
