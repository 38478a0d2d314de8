use Rattle.std.proofs.Common.{◌<◌, ◌+◌, ◌*◌, ◌/◌, ◌^◌, ⊎_elim, ap, ◌∙◌, get_or, length, arith}
use Rattle.std.proofs.Math.Nat.{div-lt_iff_lt-mul, le-div_iff_mul-le}
use Rattle.std.proofs.lemmas.Bool.{cases_lt}
use Rattle.std.proofs.lemmas.List.{with_items_is}
use Rattle.iri_register.proofs.MoveLemmas.{block_before, block_small}
use Rattle.iri_register.proofs.moves.close.Goals as goal

pub raise-requires-2-clause-small : goal.raise-requires-2-clause-small
raise-requires-2-clause-small c b h =
    let v = ap (λ l. get_or l b 0) c.as_mut_slice-2.ensures.value in
    let s = block_small c.requires.blocked (2 ^ 63) c.requires.small b (omega (arith, h, c.len-blocks.ensures, c.args.moves.now.blocks.ok.0)) in
    omega (arith, v, s)

pub returns-clause-before : goal.returns-clause-before
returns-clause-before c k le =
    let m = c.args.moves.now in
    let slots = ap (λ l. get_or l k 0) (with_items_is m.slots c.raise.new.counts (omega (arith, c.raise.ensures.same, c.as_mut_slice.ensures.len, m.slots.ok.0))) in
    let blocks = ap (λ l. get_or l (k / m.width) 0)
    (with_items_is m.blocks c.raise-2.new.counts (omega (arith, c.raise-2.ensures.same, c.as_mut_slice-2.ensures.len, m.blocks.ok.0))) in
    let s = c.raise.ensures.before k (omega (arith, le)) ∙ ap (λ l. get_or l k 0) c.as_mut_slice.ensures.value in
    let b = c.raise-2.ensures.before (k / m.width) (block_before m.width k c.args.slot c.requires.blocked.wide le)
    ∙ ap (λ l. get_or l (k / m.width) 0) c.as_mut_slice-2.ensures.value in
    omega (arith, slots, blocks, s, b)

pub returns-clause-after : goal.returns-clause-after
returns-clause-after c k lt h =
    let m = c.args.moves.now in
    let next = c.args.slot / m.width + 1 in
    let slots = ap (λ l. get_or l k 0) (with_items_is m.slots c.raise.new.counts (omega (arith, c.raise.ensures.same, c.as_mut_slice.ensures.len, m.slots.ok.0))) in
    let blocks = ap (λ l. get_or l (k / m.width) 0)
    (with_items_is m.blocks c.raise-2.new.counts (omega (arith, c.raise-2.ensures.same, c.as_mut_slice-2.ensures.len, m.blocks.ok.0))) in
    let s = ap (λ l. get_or l k 0) c.as_mut_slice.ensures.value in
    let b = ap (λ l. get_or l (k / m.width) 0) c.as_mut_slice-2.ensures.value in
    ⊎_elim
    (λ inside.
    let x = c.raise.ensures.between k (omega (arith, lt)) inside in
    let y = c.raise-2.ensures.before (k / m.width) ((div-lt_iff_lt-mul c.requires.blocked.wide).1 inside) in
    omega (arith, slots, blocks, s, b, x, y))
    (λ past.
    let x = c.raise.ensures.after k past in
    let w : k / m.width < length m.blocks.items = (div-lt_iff_lt-mul c.requires.blocked.wide).1 (omega (arith, h, c.requires.blocked.size)) in
    let y = c.raise-2.ensures.between (k / m.width) ((le-div_iff_mul-le c.requires.blocked.wide).1 past)
    (omega (arith, w, c.len-blocks.ensures, m.blocks.ok.0)) in
    omega (arith, slots, blocks, s, b, x, y))
    (cases_lt k (next * m.width))
