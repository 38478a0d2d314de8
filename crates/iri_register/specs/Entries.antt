-- The entries of a register: each target once, in first-seen order, with the numbers of its lines.
use Rattle.std.specs.Prelude.{◌≡◌, ℕ, zero, suc, ◌+◌, cond, slice_get, List, [], ◌∷◌, ◌++◌, length, Option, Some, None}
use Rattle.std.specs.Option.{option_map}
use Rattle.std.specs.Str.{bytes_eq}
use Rattle.iri_register.specs.declared.added.Added.{Added}
use Rattle.iri_register.specs.declared.added.Added.TheVariants.{New, Old}

-- a canonical target and the numbers of its lines, in order
pub record Entry : Type 0 where
  pub target : List ℕ
  pub lines : List ℕ

-- an entry with one more line
abbrev pub with_line : Entry → ℕ → Entry
with_line e line = record { target = e.target; lines = e.lines ++ line ∷ [] }

-- the place, from 1, of the entry that has this target
abbrev pub place : List Entry → List ℕ → Option ℕ
place [] target = None
place (e ∷ es) target = cond (bytes_eq target e.target) (Some 1) (option_map (λ k. k + 1) (place es target))

-- the entries after a line with this target: its number stands at the end of the lines of the entry that has the target, or
-- in a new entry at the end
abbrev pub added : List Entry → List ℕ → ℕ → List Entry
added [] target line = record { target = target; lines = line ∷ [] } ∷ []
added (e ∷ es) target line = cond (bytes_eq target e.target) (with_line e line ∷ es) (e ∷ added es target line)

-- the entries without the one that has this target
abbrev pub removed : List Entry → List ℕ → List Entry
removed [] target = []
removed (e ∷ es) target = cond (bytes_eq target e.target) es (e ∷ removed es target)

-- how many lines the entry with this target has
abbrev pub line_count : List Entry → List ℕ → Option ℕ
line_count [] target = None
line_count (e ∷ es) target = cond (bytes_eq target e.target) (Some (length e.lines)) (line_count es target)

-- the answer to a line with this target: the place of the entry that has it, or of the new entry at the end
abbrev pub IsAdded : List Entry → List ℕ → Added → Type 0
IsAdded es target (Old k) = place es target ≡ Some k
IsAdded es target (New k) = (place es target ≡ None) × (k ≡ length es + 1)

-- the entry at a place from 1
abbrev pub entry_at : List Entry → ℕ → Option Entry
entry_at es zero = None
entry_at es (suc k) = slice_get es k
