-- The command `docs`: its rules.
use Rattle.std.specs.Prelude.{ℕ, Bool, true, nat_lt, List, length}
use Rattle.iri_grammar.specs.Classes.{Tests}
use Rattle.iri_percent.specs.declared.canon_mode.CanonMode.{CanonMode}
use Rattle.iri_cli.specs.canon.Rules.{stateless_rules}
use Rattle.iri_cli.specs.docs.Answers.{docs_answer}
use Rattle.iri_cli.specs.run.Ending.{Rules}

-- a line takes memory where it has a byte
abbrev pub takes_memory : Tests → List ℕ → Bool
takes_memory s line = nat_lt 0 (length line)

-- `docs`: each line is a template document in JSON, and the base takes the memory for expansions
abbrev pub docs_rules : Tests → CanonMode → Rules
docs_rules s mode = stateless_rules docs_answer true takes_memory s mode
