-- The command `register`: what is answered to a line, and what is written at the end.
use Rattle.std.specs.Prelude.{ℕ, ◌+◌, codes, decimal, List, [], ◌∷◌, ◌++◌, length, Option, None, Some}
use Rattle.std.specs.List.{flat_map}
use Rattle.iri_grammar.specs.Characters.{comma}
use Rattle.iri_grammar.specs.Classes.{Tests}
use Rattle.iri_grammar.specs.Fault.{bytes_fault}
use Rattle.iri_grammar.specs.WholeFault.{reference_fault}
use Rattle.iri_percent.specs.declared.canon_mode.CanonMode.{CanonMode}
use Rattle.iri_normal.specs.NormalForm.{canonical_in}
use Rattle.iri_register.specs.Entries.{Entry, place, line_count}
use Rattle.iri_text.specs.LineEnds.{line_feed}
use Rattle.iri_cli.specs.run.Refused.{bad_line, unless_bad}
use Rattle.iri_cli.specs.register.Lines.{RegisterLine, adds, removes, finds, bad, line_of, entries_after}

-- words and a number, as a line
abbrev pub numbered : List ℕ → ℕ → List ℕ
numbered words number = words ++ (decimal number ++ line_feed ∷ [])

-- no entry has the target
abbrev pub none_line : List ℕ
none_line = codes "none" ++ line_feed ∷ []

-- the place of the entry that had the target, or that of the new one after so many entries
abbrev pub added_answer : ℕ → Option ℕ → List ℕ
added_answer count (Some k) = numbered (codes "old ") k
added_answer count None = numbered (codes "new ") (count + 1)

-- how many lines the entry had that went
abbrev pub removed_answer : Option ℕ → List ℕ
removed_answer (Some count) = numbered (codes "gone ") count
removed_answer None = none_line

-- the place of the entry that has the target
abbrev pub found_answer : Option ℕ → List ℕ
found_answer (Some k) = numbered (codes "at ") k
found_answer None = none_line

-- the answer to what a line asks of entries
abbrev pub answer_to : Tests → CanonMode → List ℕ → List Entry → RegisterLine → List ℕ
answer_to s mode base es (adds r) =
    unless_bad (bytes_fault (reference_fault s) r) (added_answer (length es) (place es (canonical_in s mode base r)))
answer_to s mode base es (removes r) = unless_bad (bytes_fault (reference_fault s) r) (removed_answer (line_count es (canonical_in s mode base r)))
answer_to s mode base es (finds r) = unless_bad (bytes_fault (reference_fault s) r) (found_answer (place es (canonical_in s mode base r)))
answer_to s mode base es bad = bad_line

-- the answer to a line after a base and other lines
abbrev pub register_answer : Tests → CanonMode → List ℕ → List (List ℕ) → List ℕ → List ℕ
register_answer s mode base between line = answer_to s mode base (entries_after s mode base between) (line_of line)

-- numbers, each after a comma
abbrev pub more_numbers : List ℕ → List ℕ
more_numbers ns = flat_map (λ n. comma ∷ decimal n) ns

-- numbers, joined by commas
abbrev pub joined : List ℕ → List ℕ
joined [] = []
joined (n ∷ ns) = decimal n ++ more_numbers ns

-- an entry: its place, the numbers of its lines, its target
abbrev pub entry_line : ℕ → Entry → List ℕ
entry_line k e = decimal k ++ (codes " " ++ (joined e.lines ++ (codes " " ++ (e.target ++ line_feed ∷ []))))

-- entries, of which the first has this place
abbrev pub entry_lines : ℕ → List Entry → List ℕ
entry_lines k [] = []
entry_lines k (e ∷ es) = entry_line k e ++ entry_lines (k + 1) es

-- what is written after all answers: the entries after all lines
abbrev pub register_closing : Tests → CanonMode → List ℕ → List (List ℕ) → List ℕ
register_closing s mode base between = entry_lines 1 (entries_after s mode base between)
