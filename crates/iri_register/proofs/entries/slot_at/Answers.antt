use Rattle.iri_register.proofs.Common.{arith}
use Rattle.iri_register.proofs.SlotLemmas.{entry_in}
use Rattle.iri_register.proofs.entries.slot_at.Goals as goal

pub returns-clause-some : goal.returns-clause-some
returns-clause-some c =
    let e = c.slot_after.ensures in
    entry_in c.args.map.now.entries c.args.place c.slot_after.result c.if-place-eq0.false e.live (omega (arith, e.count))
