-- The commands: their words, and the rules of those over lines.
use Rattle.std.specs.Prelude.{◌≡◌, ◌≤◌, ℕ, codes, decimal, true, List, [], ◌∷◌, ◌++◌}
use Rattle.iri_grammar.specs.Classes.{Tests, uri_tests, iri_tests}
use Rattle.iri_percent.specs.declared.canon_mode.CanonMode.{CanonMode}
use Rattle.iri_percent.specs.declared.canon_mode.CanonMode.TheVariants.{Default, Scheme}
use Rattle.iri_cli.specs.run.Ending.{Rules}
use Rattle.iri_cli.specs.canon.Rules.{canon_rules_in}
use Rattle.iri_cli.specs.docs.Rules.{docs_rules}
use Rattle.iri_cli.specs.expand.Rules.{expand_rules}
use Rattle.iri_cli.specs.generator.References.{most_references}
use Rattle.iri_cli.specs.links.Rules.{lax_rules, links_rules}
use Rattle.iri_cli.specs.pairs.Rules.{pairs_rules, pairs_to_uri_rules}
use Rattle.iri_cli.specs.parts.Rules.{parts_rules}
use Rattle.iri_cli.specs.register.Rules.{register_rules}
use Rattle.iri_cli.specs.robots.Rules.{robots_rules}
use Rattle.iri_cli.specs.to_uri.Rules.{to_uri_rules}
use Rattle.iri_robots.specs.FileLines.{is_token}
use Rattle.iri_cli.specs.declared.run.words.Grammar.{Grammar}
use Rattle.iri_cli.specs.declared.run.words.Grammar.TheVariants.{Uri, Iri}
use Rattle.iri_cli.specs.declared.run.words.Command.{Command}
use Rattle.iri_cli.specs.declared.run.words.Command.TheVariants.{Lines, Gen, Tell}
use Rattle.iri_cli.specs.declared.run.words.LineCommand.{LineCommand}
use Rattle.iri_cli.specs.declared.run.words.LineCommand.TheVariants.{Canon, ToUri, Parts, Expand, Register, Links, LaxLinks, Docs, Robots, Pairs, PairsToUri}
use Rattle.iri_cli.specs.declared.help.Notice.{Notice}
use Rattle.iri_cli.specs.declared.help.Notice.TheVariants.{Help, Version}

-- how a grammar is named
abbrev pub word_of : Grammar → List ℕ
word_of Uri = codes "uri"
word_of Iri = codes "iri"

-- how a notice is asked for
abbrev pub notice_word : Notice → List ℕ
notice_word Help = codes "--help"
notice_word Version = codes "--version"

-- how a mode is named, after all other words of a command over lines
abbrev pub mode_words : CanonMode → List (List ℕ)
mode_words Default = []
mode_words Scheme = codes "scheme" ∷ []

-- the name of a command over lines, the words after that of its grammar but for the mode's, and what it says of lines
pub record Named : Type 0 where
  pub word : List ℕ
  pub after : List (List ℕ)
  pub rules : Tests → CanonMode → Rules

abbrev pub named : LineCommand → Named
named Canon = record { word = codes "canon"; after = []; rules = canon_rules_in }
named ToUri = record { word = codes "canon"; after = codes "to" ∷ codes "uri" ∷ []; rules = to_uri_rules }
named Parts = record { word = codes "parts"; after = []; rules = parts_rules }
named Expand = record { word = codes "expand"; after = []; rules = expand_rules }
named Register = record { word = codes "register"; after = []; rules = register_rules }
named Links = record { word = codes "links"; after = []; rules = links_rules }
named LaxLinks = record { word = codes "links"; after = codes "lax" ∷ []; rules = lax_rules }
named Docs = record { word = codes "docs"; after = []; rules = docs_rules }
named (Robots token) = record { word = codes "robots"; after = token.now ∷ []; rules = λ s mode. robots_rules s mode token.now }
named Pairs = record { word = codes "pairs"; after = []; rules = pairs_rules }
named PairsToUri = record { word = codes "pairs"; after = codes "to" ∷ codes "uri" ∷ []; rules = pairs_to_uri_rules }

-- the token of `robots` is a product token (RFC 9309 section 2.2.1)
abbrev pub HasToken : LineCommand → Type 0
HasToken (Robots token) = is_token token.now ≡ true
HasToken command = Unit {0}

-- a number of references in decimal, without a leading zero
pub record IsCount (word : List ℕ) (count : ℕ) : Type 0 where
  pub spelled : word ≡ decimal count
  pub least : 1 ≤ count
  pub most : count ≤ most_references

-- These words, in UTF-8, are this command.
abbrev pub IsCommand : List (List ℕ) → Command → Type 0
IsCommand words (Lines command mode grammar) =
    (words ≡ (named command).word ∷ word_of grammar ∷ ((named command).after ++ mode_words mode)) × HasToken command
IsCommand words (Gen grammar count) = (number : List ℕ) × (words ≡ codes "gen" ∷ word_of grammar ∷ number ∷ []) × IsCount number count
IsCommand words (Tell notice) = words ≡ notice_word notice ∷ []

abbrev pub tests_of : Grammar → Tests
tests_of Uri = uri_tests
tests_of Iri = iri_tests

-- what a command over lines says of them, by the rules of a mode
abbrev pub rules_of : LineCommand → Tests → CanonMode → Rules
rules_of command = (named command).rules
