use Rattle.std.proofs.Common.{refl, arith}
use Rattle.iri_robots.proofs.Settled.{settled_past, still_repeated, next_period}
use Rattle.iri_robots.proofs.periods.periods_of.Goals as goal

pub loop-known-preserved : goal.loop-known-preserved
loop-known-preserved c =
    let t = c.args.text.now in
    let i = c.loop-known.invariant in
    let p = c.loop-known.known.settled in
    let r = c.repeated_len-repeated.result in
    let b = c.repeated_len-repeated.ensures in
    let a = c.settle.ensures.settled c.if-not-settle.false t i.known b in
    let w = b.within in
    let f = c.shift_of-shift.ensures t a (omega arith) in
    record {
      known = settled_past t c.settle.new.known _ p r c.shift_of-shift.result.by c.shift_of-shift.result.kept refl refl refl (c.settle.ensures.next
          c.if-not-settle.false) refl i.known.some_settled a b f;
      within = still_repeated t p r c.shift_of-shift.result.by c.shift_of-shift.result.kept b f;
      period = next_period t p r c.shift_of-shift.result.by c.shift_of-shift.result.kept b f;
    }
