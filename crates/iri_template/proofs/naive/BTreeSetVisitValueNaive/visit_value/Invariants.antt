use Rattle.iri_template.proofs.Common.{ListBegun, Item, InList}
use Rattle.iri_template.proofs.VisitsEach.{HasHeardUpTo}
use Rattle.iri_template.proofs.naive.BTreeSetVisitValueNaive.visit_value.Given as goal

-- the items before those that are left were told
abbrev pub invariant-loop-item : goal.invariant-loop-item
invariant-loop-item g l =
    let v = g.V.Visitor in
    HasHeardUpTo v.name v.aim v.phase v.hears v.stops ListBegun Item g.T.Show.text InList l.fn.visitor l.self.keys l.item-iterator l.visitor
