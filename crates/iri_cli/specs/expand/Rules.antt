-- The command `expand`: its rules.
use Rattle.std.specs.Prelude.{ℕ, Bool, true, false, List, [], ◌∷◌}
use Rattle.iri_grammar.specs.Classes.{Tests}
use Rattle.iri_percent.specs.declared.canon_mode.CanonMode.{CanonMode}
use Rattle.iri_cli.specs.canon.Rules.{canon_rules_in, is_ok}
use Rattle.iri_cli.specs.expand.Answers.{expand_answer}
use Rattle.iri_cli.specs.expand.Lines.{ExpandLine, changes, expands, bad, line_of}
use Rattle.iri_cli.specs.run.Ending.{Rules}

-- a line without an answer is good
abbrev pub is_ok_or_none : List ℕ → Bool
is_ok_or_none [] = true
is_ok_or_none (b ∷ answer) = is_ok (b ∷ answer)

-- whether what a line says takes memory: one that changes a variable does
abbrev pub takes_memory : ExpandLine → Bool
takes_memory (changes change) = true
takes_memory (expands template) = false
takes_memory bad = false

-- `expand`: base and limits as those of `canon`; each answer depends on the lines before, and a line that gives a variable a value has none
abbrev pub expand_rules : Tests → CanonMode → Rules
expand_rules s mode = record (canon_rules_in s mode) {
  answer = expand_answer s mode;
  is_good = is_ok_or_none;
  base_wants_memory = true;
  wants_memory = λ base between line. takes_memory (line_of line);
}
