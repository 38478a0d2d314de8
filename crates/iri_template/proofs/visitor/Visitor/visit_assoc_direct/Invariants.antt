use Rattle.iri_template.proofs.Common.{drop, PairsBegun, entry_of, pair_text, InPairs}
use Rattle.iri_template.proofs.VisitsEach.{HasHeardUpTo}
use Rattle.iri_template.proofs.visitor.Visitor.visit_assoc_direct.Given as goal

-- the pairs before those that are left were told
abbrev pub invariant-loop-entry : goal.invariant-loop-entry
invariant-loop-entry g l =
    let v = g.Self.Visitor in
    HasHeardUpTo v.name v.aim v.phase v.hears v.stops PairsBegun entry_of
    (pair_text g.K.Show.text g.T.Show.text) InPairs l.fn.self l.entries (drop l.entry-index l.entries) l.self
