use Rattle.iri_template.proofs.Common.{PairsBegun, entry_of, pair_text, InPairs}
use Rattle.iri_template.proofs.VisitsEach.{HasHeardUpTo}
use Rattle.iri_template.proofs.naive.BTreeMapVisitValueNaive.visit_value.Given as goal

-- the pairs before those that are left were told
abbrev pub invariant-loop-key : goal.invariant-loop-key
invariant-loop-key g l =
    let v = g.V.Visitor in
    HasHeardUpTo v.name v.aim v.phase v.hears v.stops PairsBegun entry_of
    (pair_text g.K.Show.text g.T.Show.text) InPairs l.fn.visitor l.self.entries l.key-iterator l.visitor
