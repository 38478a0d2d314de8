use Rattle.iri_grammar.proofs.Common.{subst, IsUtf8}
use Rattle.iri_grammar.proofs.units.FirstUnits.{text_after_ascii}
use Rattle.iri_grammar.proofs.tail.cut_part.Goals as goal

pub returns-in-Some-clause-stops : goal.returns-in-Some-clause-stops
returns-in-Some-clause-stops g c l u =
    c.cut_units-cut.ensures.stops (text_after_ascii c.args.delimiter c.in-Some.s.now (subst IsUtf8 c.in-Some.ensures u) l)
