-- A part with the delimiter before it, which parts it from what comes before.
use Rattle.std.specs.Prelude.{◌≡◌, ℕ, List, ◌++◌, Option, None}
use Rattle.iri_grammar.specs.declared.error.ErrorKind.{ErrorKind}

-- the text isn't the delimiter and a text without fault after it
abbrev pub IsUndelimited : List ℕ → (List ℕ → Option ErrorKind) → List ℕ → Type 0
IsUndelimited delimiter fault t = (x : List ℕ) → t ≡ delimiter ++ x → fault x ≡ None → ⊥
