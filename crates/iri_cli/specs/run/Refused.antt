-- Answers of tools that are refused.
use Rattle.std.specs.Prelude.{ℕ, Bool, not, nat_eq, codes, List, Option, None, Some}
use Rattle.std.specs.List.{starts_with}
use Rattle.iri_grammar.specs.declared.error.ErrorKind.{ErrorKind}
use Rattle.iri_normal.specs.Answers.{bad_answer}
-- `bad_line`, the answer to a line that asks nothing
pub use Rattle.iri_normal.specs.Pairs.{bad_line}

-- the answer to a reference, by its first fault: this one where it has none
abbrev pub unless_bad : Option ErrorKind → List ℕ → List ℕ
unless_bad None answer = answer
unless_bad (Some kind) answer = bad_answer kind

-- an answer that begins with "bad" is refused
abbrev pub is_not_bad : List ℕ → Bool
is_not_bad answer = not (starts_with nat_eq answer (codes "bad"))
