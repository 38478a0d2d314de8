-- Where `docs` stands after lines.
use Rattle.std.specs.Prelude.{◌≡◌, ◌≤◌, ℕ, true, List, length, None}
use Rattle.iri_grammar.specs.Classes.{Tests}
use Rattle.iri_percent.specs.declared.canon_mode.CanonMode.{CanonMode}
use Rattle.iri_docs.specs.Expanded.{expansion_limit}
use Rattle.iri_cli.specs.canon.Answers.{refusal}
use Rattle.iri_cli.specs.docs.Answers.{docs_answer}
use Rattle.iri_cli.specs.docs.Rules.{takes_memory}
use Rattle.iri_cli.specs.inside.StatelessAt.{IsStatelessAt}
use Rattle.iri_cli.specs.inside.Answering.{Answering}
use Rattle.iri_cli.specs.run.Limits.{longest_line, answer_room}

-- It answers each line alone. Its buffers have room for each expansion, and the capacity for each answer.
pub record IsDocsAt (s : Tests) (mode : CanonMode) (base expansion : List ℕ) (output : ℕ) (at : Answering) : Type 0 where
  pub stands : IsStatelessAt docs_answer true takes_memory s mode base at
  pub taken : refusal s base ≡ None
  pub short : length base ≤ longest_line
  pub expansion_room : length expansion ≡ expansion_limit
  pub output_room : answer_room ≤ output
