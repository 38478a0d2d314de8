-- The entries of a list of commands.
use Rattle.std.specs.Prelude.{ℕ, Bool, true, not, ◌&&◌, cond, List, [], ◌∷◌, map, filter}
use Rattle.std.specs.Str.{bytes_eq}
use Rattle.iri_register.specs.Entries.{Entry, added, removed}

-- a command on a canonical target: a line that adds it, by its number, or one that takes it out
pub data Command : Type 0 where
  Add : List ℕ → ℕ → Command
  Remove : List ℕ → Command

-- a line of a target
pub record Line : Type 0 where
  pub target : List ℕ
  pub number : ℕ

-- no command takes the target out
abbrev pub stays : List ℕ → List Command → Bool
stays target [] = true
stays target (Add t n ∷ cs) = stays target cs
stays target (Remove t ∷ cs) = not (bytes_eq t target) && stays target cs

-- the live lines: those that add a target which no command after them takes out
abbrev pub live : List Command → List Line
live [] = []
live (Add t n ∷ cs) = cond (stays t cs) (record { target = t; number = n } ∷ live cs) (live cs)
live (Remove t ∷ cs) = live cs

-- the targets of lines, each once, in the order of the first line of each
abbrev pub targets : List Line → List (List ℕ)
targets [] = []
targets (l ∷ ls) = l.target ∷ filter (λ t. not (bytes_eq l.target t)) (targets ls)

-- the numbers of a target's lines, in order
abbrev pub numbers : List ℕ → List Line → List ℕ
numbers target ls = map (λ l. l.number) (filter (λ l. bytes_eq target l.target) ls)

-- the entries of live lines
abbrev pub entries_of_lines : List Line → List Entry
entries_of_lines ls = map (λ t. record { target = t; lines = numbers t ls }) (targets ls)

-- the entries of commands: the targets of the live lines, each with the numbers of its live lines
abbrev pub entries_of_commands : List Command → List Entry
entries_of_commands cs = entries_of_lines (live cs)

-- the entries after one more command
abbrev pub obeyed : List Entry → Command → List Entry
obeyed es (Add t n) = added es t n
obeyed es (Remove t) = removed es t
