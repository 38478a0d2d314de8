-- The command `canon` with `to uri`: its rules.
use Rattle.iri_grammar.specs.Classes.{Tests}
use Rattle.iri_percent.specs.declared.canon_mode.CanonMode.{CanonMode}
use Rattle.iri_cli.specs.canon.Rules.{canon_rules_in}
use Rattle.iri_cli.specs.run.Ending.{Rules}
use Rattle.iri_cli.specs.to_uri.Answers.{uri_answer}

-- those of `canon` in a mode, but for the answers; no line takes memory
abbrev pub to_uri_rules : Tests → CanonMode → Rules
to_uri_rules s mode = record (canon_rules_in s mode) { answer = λ base between line. uri_answer s mode base line }
