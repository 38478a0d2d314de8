use Rattle.std.proofs.Common.{drop}
use Rattle.iri_template.specs.Events.{PairsBegun, entry_of, pair_text}
use Rattle.iri_template.proofs.VisitsEach.{HasHeardUpTo}
use Rattle.iri_template.specs.declared.visitor.Phase.TheVariants.{InPairs}
use Rattle.iri_calls.specs.Variables.{shown, paired}
use Rattle.iri_calls.proofs.variables.visit_pairs.Given as goal

-- the pairs before those that are left were visited
abbrev pub invariant-loop-i : goal.invariant-loop-i
invariant-loop-i g l =
    let v = g.V.Visitor in
    HasHeardUpTo v.name v.aim v.phase v.hears v.stops PairsBegun entry_of (pair_text shown shown) InPairs l.fn.visitor (paired l.values)
    (drop l.i (paired l.values)) l.visitor
