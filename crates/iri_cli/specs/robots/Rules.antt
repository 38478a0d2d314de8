-- The command `robots`: its rules.
use Rattle.std.specs.Prelude.{ℕ, true, List}
use Rattle.iri_grammar.specs.Classes.{Tests}
use Rattle.iri_percent.specs.declared.canon_mode.CanonMode.{CanonMode}
use Rattle.iri_cli.specs.canon.Rules.{canon_rules_in}
use Rattle.iri_cli.specs.robots.Answers.{robots_answer}
use Rattle.iri_cli.specs.robots.Lines.{line_of}
use Rattle.iri_cli.specs.robots.Memory.{takes_memory}
use Rattle.iri_cli.specs.run.Ending.{Rules}
use Rattle.iri_cli.specs.run.Refused.{is_not_bad}

-- `robots` over the lines of an input, for the crawler of a token: each line is answered by the records after the lines before it
abbrev pub robots_rules : Tests → CanonMode → List ℕ → Rules
robots_rules s mode token = record (canon_rules_in s mode) {
  answer = robots_answer s mode token;
  is_good = is_not_bad;
  base_wants_memory = true;
  wants_memory = λ base between line. takes_memory s (line_of line);
}
