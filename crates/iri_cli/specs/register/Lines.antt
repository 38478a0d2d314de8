-- The command `register`: what a line asks, and the links after lines.
use Rattle.std.specs.Prelude.{ℕ, ◌+◌, ◌==◌, List, [], ◌∷◌, ◌++◌, Option, None, Some, if◌then◌else◌}
use Rattle.iri_grammar.specs.Classes.{Tests}
use Rattle.iri_grammar.specs.Fault.{bytes_fault}
use Rattle.iri_grammar.specs.WholeFault.{reference_fault}
use Rattle.iri_grammar.specs.declared.error.ErrorKind.{ErrorKind}
use Rattle.iri_percent.specs.declared.canon_mode.CanonMode.{CanonMode}
use Rattle.iri_normal.specs.NormalForm.{canonical_in}
use Rattle.iri_register.specs.Commands.{Command, Add, Remove, entries_of_commands}
use Rattle.iri_register.specs.Entries.{Entry}

-- what a line asks: to add its reference, to remove or to find it, or nothing of these
pub data RegisterLine : Type 0 where
  adds : (reference : List ℕ) → RegisterLine
  removes : (reference : List ℕ) → RegisterLine
  finds : (reference : List ℕ) → RegisterLine
  bad : RegisterLine

-- by its letter: `a`, `d` or `f`
abbrev pub asked : ℕ → List ℕ → RegisterLine
asked letter reference =
    if letter == 97 then adds reference
    else (if letter == 100 then removes reference else (if letter == 102 then finds reference else bad))

-- a line: a letter, one space, and a reference, which may be empty
unfoldable pub line_of : List ℕ → RegisterLine
line_of (letter ∷ delimiter ∷ reference) = if delimiter == 32 then asked letter reference else bad
line_of line = bad

-- a command where the reference has no fault
abbrev pub unless_fault : Option ErrorKind → Command → List Command
unless_fault None command = command ∷ []
unless_fault (Some kind) command = []

module _ (s : Tests) (mode : CanonMode) (base : List ℕ) where
  -- the command on the canonical target that a line of this number gives
  abbrev pub command_of : ℕ → RegisterLine → List Command
  command_of number (adds r) = unless_fault (bytes_fault (reference_fault s) r) (Add (canonical_in s mode base r) number)
  command_of number (removes r) = unless_fault (bytes_fault (reference_fault s) r) (Remove (canonical_in s mode base r))
  command_of number (finds r) = []
  command_of number bad = []

  -- the commands of lines, of which the first has this number
  abbrev pub commands_from : ℕ → List (List ℕ) → List Command
  commands_from number [] = []
  commands_from number (line ∷ lines) = command_of number (line_of line) ++ commands_from (number + 1) lines

  -- the entries after the lines of an input so far; the base line has number 1
  unfoldable pub entries_after : List (List ℕ) → List Entry
  entries_after lines = entries_of_commands (commands_from 2 lines)
