-- What the calls of a register answer to a reference against a base, by its canonical target in a mode, and what entries they leave.
use Rattle.std.specs.Prelude.{◌≡◌, ℕ, List, Option, IfOk, OnOk, Result}
use Rattle.iri_grammar.specs.Classes.{Tests}
use Rattle.iri_percent.specs.declared.canon_mode.CanonMode.{CanonMode}
use Rattle.iri_normal.specs.NormalForm.{canonical_in}
use Rattle.iri_register.specs.Entries.{Entry, IsAdded, added, line_count, place, removed}
use Rattle.iri_register.specs.declared.added.Added.{Added}
use Rattle.iri_register.specs.declared.error.RegisterError.{RegisterError}

-- the place of the entry that has the target
abbrev pub FindsPlace : Tests → CanonMode → List ℕ → List Entry → List ℕ → Result (Option ℕ) RegisterError → Type 0
FindsPlace s mode base es reference result = IfOk result (λ k. k ≡ place es (canonical_in s mode base reference))

-- the place of the entry that got the line
abbrev pub TellsAdded : Tests → CanonMode → List ℕ → List Entry → List ℕ → Result Added RegisterError → Type 0
TellsAdded s mode base es reference result = IfOk result (IsAdded es (canonical_in s mode base reference))

-- the entries after the line
abbrev pub Adds : Tests → CanonMode → List ℕ → (old new : List Entry) → List ℕ → ℕ → Result Added RegisterError → Type 0
Adds s mode base old new reference line result = OnOk result (new ≡ added old (canonical_in s mode base reference) line)

-- how many lines the entry that was taken out had
abbrev pub TellsLines : Tests → CanonMode → List ℕ → List Entry → List ℕ → Result (Option ℕ) RegisterError → Type 0
TellsLines s mode base es reference result = IfOk result (λ n. n ≡ line_count es (canonical_in s mode base reference))

-- the entries without it
abbrev pub Removes : Tests → CanonMode → List ℕ → (old new : List Entry) → List ℕ → Result (Option ℕ) RegisterError → Type 0
Removes s mode base old new reference result = OnOk result (new ≡ removed old (canonical_in s mode base reference))
