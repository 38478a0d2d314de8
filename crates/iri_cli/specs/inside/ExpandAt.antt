-- Where `expand` stands after lines.
use Rattle.std.specs.Prelude.{◌≡◌, ◌≤◌, ℕ, List, length, None}
use Rattle.iri_grammar.specs.Classes.{Tests}
use Rattle.iri_percent.specs.declared.canon_mode.CanonMode.{CanonMode}
use Rattle.iri_cli.specs.run.Limits.{longest_line, answer_room}
use Rattle.iri_cli.specs.canon.Answers.{refusal}
use Rattle.iri_cli.specs.inside.Answering.{Answering}
use Rattle.iri_docs.specs.Expanded.{expansion_limit}
use Rattle.iri_cli.specs.expand.Lines.{Values, values_after}
use Rattle.iri_cli.specs.expand.Rules.{expand_rules}
use Rattle.iri_cli.specs.run.Prepared.{IsAlike}

-- Its base has the answers of the base line, and it has the values after the lines that were answered. Its buffers have room for each
-- expansion, and the capacity for each answer.
pub record IsExpandAt (s : Tests) (mode : CanonMode) (base expansion : List ℕ) (output : ℕ) (values : Values) (at : Answering) : Type 0 where
  pub rules : at.rules ≡ expand_rules s mode
  pub alike : IsAlike (expand_rules s mode) base at.base
  pub values_are : values ≡ values_after at.between
  pub taken : refusal s base ≡ None
  pub short : length base ≤ longest_line
  pub expansion_room : length expansion ≡ expansion_limit
  pub output_room : answer_room ≤ output
