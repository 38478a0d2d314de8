use Rattle.iri_grammar.proofs.Common.{arith, lead_after_ascii}
use Rattle.iri_grammar.proofs.cutting.cut.Goals as goal

pub range_from-requires : goal.range_from-requires
range_from-requires c _ =
    let at = c.in-Some.ensures in
    (omega (arith, at.inside), λ l h. lead_after_ascii c.args.s.now c.in-Some.i c.utf8.s (omega (arith, at.byte, c.requires)) l h)
