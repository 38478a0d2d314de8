use Rattle.iri_template.proofs.Common.{drop, ListBegun, Item, InList}
use Rattle.iri_template.proofs.VisitsEach.{HasHeardUpTo}
use Rattle.iri_template.proofs.visitor.Visitor.visit_list_direct.Given as goal

-- the items before those that are left were told
abbrev pub invariant-loop-item : goal.invariant-loop-item
invariant-loop-item g l =
    let v = g.Self.Visitor in
    HasHeardUpTo v.name v.aim v.phase v.hears v.stops ListBegun Item g.T.Show.text InList l.fn.self l.items (drop l.item-index l.items) l.self
