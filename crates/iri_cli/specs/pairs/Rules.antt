-- The command `pairs`: its rules.
use Rattle.std.specs.Prelude.{ℕ, codes, List, Option, None, Some}
use Rattle.iri_grammar.specs.Classes.{Tests}
use Rattle.iri_percent.specs.declared.canon_mode.CanonMode.{CanonMode}
use Rattle.iri_grammar.specs.Cut.{before, after}
use Rattle.iri_grammar.specs.Fault.{bytes_fault}
use Rattle.iri_grammar.specs.WholeFault.{absolute_fault}
use Rattle.iri_normal.specs.Pairs.{bad_line, pairs_answer, tab, unless_page}
use Rattle.iri_cli.specs.canon.Rules.{canon_rules_in}
use Rattle.iri_cli.specs.run.Ending.{Rules}
use Rattle.iri_cli.specs.to_uri.Answers.{uri_answer}

-- the base that stands before all lines, which no answer reads
abbrev pub no_page : List ℕ
no_page = codes "a:"

-- `pairs` in a mode over the lines of an input: no line is a base, and each is answered by itself alone; limits and good answers are those of
-- `canon`, and no line takes memory
abbrev pub pairs_rules : Tests → CanonMode → Rules
pairs_rules s mode = record (canon_rules_in s mode) {
  fixed_base = Some no_page;
  answer = λ base between line. pairs_answer s mode line;
}

-- the answer to a link on a page: that of `canon` with `to uri`, where the page is the base
abbrev pub uri_on : Tests → CanonMode → List ℕ → Option (List ℕ) → List ℕ
uri_on s mode page None = bad_line
uri_on s mode page (Some link) = unless_page (bytes_fault (absolute_fault s) page) (uri_answer s mode page link)

-- the answer to a line of `pairs` with `to uri`
unfoldable pub pair_uri_answer : Tests → CanonMode → List ℕ → List ℕ
pair_uri_answer s mode line = uri_on s mode (before tab line) (after tab line)

-- `pairs` with `to uri`: its rules are those of `pairs`, but for the answers
abbrev pub pairs_to_uri_rules : Tests → CanonMode → Rules
pairs_to_uri_rules s mode = record (pairs_rules s mode) { answer = λ base between line. pair_uri_answer s mode line }
