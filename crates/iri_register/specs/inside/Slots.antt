-- Slots of which some are taken.
use Rattle.std.specs.Prelude.{◌≡◌, ℕ, zero, suc, ◌+◌, ◌<◌, ◌≤◌, cond, List, [], ◌∷◌, filter, length}
use Rattle.iri_register.specs.declared.key.Key.{Key}
use Rattle.iri_register.specs.declared.lines.Lines.{Lines}
use Rattle.iri_register.specs.Listed.{is_live}
use Rattle.iri_register.specs.declared.moves.Moves.{Moves}
use Rattle.std.specs.declared.hash.DefaultHasher.{DefaultHasher}
use Rattle.iri_register.specs.inside.Keys.{AreHashed}
use Rattle.iri_register.specs.inside.Moved.{moved, IsBlocked}

abbrev pub flag : Key × Lines → ℕ
flag e = cond (is_live e) 1 0

-- 1 where the entry in the slot was not taken out, else 0
abbrev pub flag_at : List (Key × Lines) → ℕ → ℕ
flag_at [] i = 0
flag_at (e ∷ es) zero = flag e
flag_at (e ∷ es) (suc i) = flag_at es i

-- how many of the first n were taken out
abbrev pub gaps : List (Key × Lines) → ℕ → ℕ
gaps [] n = 0
gaps (e ∷ es) zero = 0
gaps (e ∷ es) (suc n) = cond (is_live e) 0 1 + gaps es n

-- the moves are those of the entries
pub record IsKept (h : DefaultHasher) (es : List (Key × Lines)) (m : Moves) (live : ℕ) : Type 0 where
  pub hashed : AreHashed h es
  pub blocked : IsBlocked m
  pub within : length es ≤ length m.slots.items
  pub moves : (k : ℕ) → k < length m.slots.items → moved m k ≡ gaps es k
  pub living : live ≡ length (filter is_live es)
