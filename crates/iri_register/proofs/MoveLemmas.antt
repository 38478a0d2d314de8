-- Slots in blocks of one width.
use Rattle.std.proofs.Common.{◌≡◌, ℕ, ◌+◌, ◌*◌, ◌/◌, ◌<◌, ◌≤◌, length, get_or, arith, ap}
use Rattle.std.proofs.Math.Nat.{div-lt_iff_lt-mul, mul-le-mul_right, mul-div_cancel}
use Rattle.iri_register.proofs.Common.{Moves, moved, IsBlocked}

-- the slots up to one are in no later block
pub block_before : (w k slot : ℕ) → 0 < w → k ≤ slot → k / w < slot / w + 1
block_before w k slot p h =
    let end : slot < (slot / w + 1) * w = (div-lt_iff_lt-mul p).0 (omega arith) in
    (div-lt_iff_lt-mul p).1 (omega (arith, end, h))

-- a block's number is not more than that of its first slot
pub block_small : {m : Moves} → IsBlocked m → (n : ℕ) → ((k : ℕ) → k < length m.slots.items → moved m k < n) → (b : ℕ)
    → b < length m.blocks.items → get_or m.blocks.items b 0 < n
block_small {m} blocked n small b h =
    let next : (b + 1) * m.width ≤ length m.blocks.items * m.width = mul-le-mul_right m.width (omega arith) in
    let first : b * m.width / m.width ≡ b = mul-div_cancel b blocked.wide in
    let is = ap (λ k. get_or m.blocks.items k 0) first in
    let s = small (b * m.width) (omega (arith, next, blocked.size, blocked.wide)) in
    omega (arith, is, s)
