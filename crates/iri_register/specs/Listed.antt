-- The entries that a map holds.
use Rattle.std.specs.Prelude.{ℕ, Bool, true, false, List, [], ◌∷◌, filter, map, string_bytes}
use Rattle.iri_register.specs.declared.key.Key.{Key}
use Rattle.iri_register.specs.declared.lines.Lines.{Lines}
use Rattle.iri_register.specs.declared.lines.Lines.TheVariants.{One, More}
use Rattle.iri_register.specs.Entries.{Entry}

-- the numbers, in order
abbrev pub numbers_in : Lines → List ℕ
numbers_in (One lines) = lines
numbers_in (More lines) = lines.items

-- a key and its value, as an entry
abbrev pub entry_of : Key × Lines → Entry
entry_of p = record { target = string_bytes p.0.text; lines = numbers_in p.1 }

abbrev pub has_lines : List ℕ → Bool
has_lines [] = false
has_lines (l ∷ ls) = true

-- the entry was not taken out
abbrev pub is_live : Key × Lines → Bool
is_live p = has_lines (numbers_in p.1)

abbrev pub entries_of : List (Key × Lines) → List Entry
entries_of es = map entry_of (filter is_live es)
