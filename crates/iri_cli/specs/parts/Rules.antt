-- The command `parts`: its rules.
use Rattle.std.specs.Prelude.{ℕ, codes, nat_eq, not, Bool, List}
use Rattle.std.specs.List.{starts_with}
use Rattle.iri_grammar.specs.Classes.{Tests}
use Rattle.iri_percent.specs.declared.canon_mode.CanonMode.{CanonMode}
use Rattle.iri_cli.specs.canon.Rules.{canon_rules_in}
use Rattle.iri_cli.specs.parts.Answers.{parts_answer}
use Rattle.iri_cli.specs.run.Ending.{Rules}

-- an answer is good where its first member isn't `bad`
abbrev pub is_taken_apart : List ℕ → Bool
is_taken_apart answer = not (starts_with nat_eq answer (codes "{\"bad\""))

-- those of `canon` in a mode, but for the answers and which are good; no line takes memory
abbrev pub parts_rules : Tests → CanonMode → Rules
parts_rules s mode = record (canon_rules_in s mode) {
  answer = λ base between line. parts_answer s mode base line;
  is_good = is_taken_apart;
}
