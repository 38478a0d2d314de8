-- The command `links`: its rules.
use Rattle.std.specs.Prelude.{ℕ, Bool, false, List}
use Rattle.iri_grammar.specs.Classes.{Tests}
use Rattle.iri_percent.specs.declared.canon_mode.CanonMode.{CanonMode}
use Rattle.iri_cli.specs.canon.Rules.{stateless_rules}
use Rattle.iri_cli.specs.links.Answers.{lax_answer, links_answer}
use Rattle.iri_cli.specs.run.Ending.{Rules}

-- neither the base nor a line takes memory
abbrev pub takes_memory : Tests → List ℕ → Bool
takes_memory s line = false

-- `links`: each line is the value of a `Link` field
abbrev pub links_rules : Tests → CanonMode → Rules
links_rules s mode = stateless_rules links_answer false takes_memory s mode

-- `links` with `lax`: the same, read laxly
abbrev pub lax_rules : Tests → CanonMode → Rules
lax_rules s mode = stateless_rules lax_answer false takes_memory s mode
