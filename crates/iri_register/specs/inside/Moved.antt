-- By how many places the entries in slots moved up.
use Rattle.std.specs.Prelude.{◌≡◌, ℕ, ◌+◌, ◌*◌, ◌/◌, ◌^◌, ◌<◌, ◌≤◌, length, get_or}
use Rattle.iri_register.specs.declared.moves.Moves.{Moves}

-- the number of the slot's block, and the slot's own
abbrev pub moved : Moves → ℕ → ℕ
moved m k = get_or m.blocks.items (k / m.width) 0 + get_or m.slots.items k 0

-- each block has as many slots
pub record IsBlocked (m : Moves) : Type 0 where
  pub wide : 0 < m.width
  pub size : length m.slots.items ≡ length m.blocks.items * m.width

-- the slot has not moved up by more than its number
pub record IsPlacedBy (m : Moves) (slot : ℕ) : Type 0 where
  pub blocked : IsBlocked m
  pub within : slot < length m.slots.items
  pub up : moved m slot ≤ slot
  pub small : slot < 2 ^ 63
