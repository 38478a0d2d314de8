use Rattle.iri_register.proofs.Common.{◌≡◌, ◌<◌, ◌+◌, ◌-◌, gaps, suc, subst, arith}
use Rattle.std.proofs.Common.{◌/◌}
use Rattle.iri_register.proofs.SlotLemmas.{gaps_small, gaps_most, gaps_next, flag_small, live_within, moved_is}
use Rattle.iri_register.proofs.entries.slot_after.Goals as goal

pub overflow_sub-high : goal.overflow_sub-high
overflow_sub-high c = let l = live_within c.args.map.now.entries in omega (arith, l, c.requires.kept.1.living, c.len.ensures.len)

pub loop-high-init : goal.loop-high-init
loop-high-init c =
    let es = c.args.map.now.entries in
    let l = live_within es in
    let m = gaps_most es (c.args.count + (c.len.result - c.args.live) + 1) in (
      omega arith,
      omega (arith, l, c.requires.kept.1.living, c.requires.within, c.len.ensures.len),
      omega arith,
      omega (arith, l, m, c.requires.kept.1.living, c.len.ensures.len),
    )

pub at-requires-clause-small : goal.at-requires-clause-small
at-requires-clause-small c =
    let es = c.args.map.now.entries in
    let middle = c.loop-high.low + (c.loop-high.high - c.loop-high.low) / 2 in
    let m = moved_is c.requires.kept.1 middle (omega (arith, c.loop-high.invariant.0, c.loop-high.invariant.1)) in
    let g = gaps_most es middle in
    omega (arith, m, g, c.len.ensures.len, c.len.ensures.small)

pub overflow_sub-middle-in-loop-high : goal.overflow_sub-middle-in-loop-high
overflow_sub-middle-in-loop-high c =
    let middle = c.loop-high.low + (c.loop-high.high - c.loop-high.low) / 2 in
    let m = moved_is c.requires.kept.1 middle (omega (arith, c.loop-high.invariant.0, c.loop-high.invariant.1)) in
    let g = gaps_small c.args.map.now.entries middle in
    omega (arith, m, g, c.at.ensures)

pub returns : goal.returns
returns c =
    let es = c.args.map.now.entries in
    let v = c.loop-high.invariant in
    let next : c.loop-high.high ≡ suc c.loop-high.low = omega (arith, v.0, c.loop-high-test.false) in
    let up = subst (λ h. c.args.count + gaps es h < h) next v.3 in
    let g = gaps_next es c.loop-high.low (omega (arith, v.0, v.1)) in
    let f = flag_small es c.loop-high.low in
    record { within = omega (arith, v.0, v.1); live = omega (arith, up, g, f, v.2); count = omega (arith, up, g, f, v.2) }
