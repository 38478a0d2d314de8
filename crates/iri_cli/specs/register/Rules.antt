-- The command `register`: its rules.
use Rattle.std.specs.Prelude.{true}
use Rattle.iri_grammar.specs.Classes.{Tests}
use Rattle.iri_percent.specs.declared.canon_mode.CanonMode.{CanonMode}
use Rattle.iri_cli.specs.canon.Rules.{canon_rules_in}
use Rattle.iri_cli.specs.register.Answers.{register_answer, register_closing}
use Rattle.iri_cli.specs.register.Lines.{entries_after, line_of}
use Rattle.iri_cli.specs.register.Memory.{takes_memory}
use Rattle.iri_cli.specs.run.Ending.{Rules}
use Rattle.iri_cli.specs.run.Refused.{is_not_bad}

-- `register` over the lines of an input: each line is answered by the entries after the lines before it, and the entries are written at the
-- end
abbrev pub register_rules : Tests → CanonMode → Rules
register_rules s mode = record (canon_rules_in s mode) {
  answer = register_answer s mode;
  is_good = is_not_bad;
  closing = register_closing s mode;
  base_wants_memory = true;
  wants_memory = λ base between line. takes_memory s (entries_after s mode base between) (line_of line);
}
