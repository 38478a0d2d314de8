-- How many bytes a call writes at most.
use Rattle.std.specs.Prelude.{◌≤◌, ℕ, length}
use Rattle.iri_calls.specs.Outcome.{Outcome}
use Rattle.iri_calls.specs.Outcome.Outcome.{text, fault, plain}

-- where a text is written it has at most so many bytes
abbrev pub HasAtMost : ℕ → Outcome → Type 0
HasAtMost most (text t) = length t ≤ most
HasAtMost most (fault whose kind) = Unit {0}
HasAtMost most (plain what) = Unit {0}
