-- The line that answers a page and a link on it.
use Rattle.std.specs.Prelude.{ℕ, codes, List, [], ◌∷◌, ◌++◌, Option, None, Some}
use Rattle.iri_grammar.specs.Classes.{Tests}
use Rattle.iri_grammar.specs.Cut.{before, after}
use Rattle.iri_grammar.specs.ErrorTexts.{description}
use Rattle.iri_grammar.specs.Fault.{bytes_fault}
use Rattle.iri_grammar.specs.WholeFault.{absolute_fault}
use Rattle.iri_grammar.specs.declared.error.ErrorKind.{ErrorKind}
use Rattle.iri_text.specs.LineEnds.{line_feed}
use Rattle.iri_percent.specs.declared.canon_mode.CanonMode.{CanonMode}
use Rattle.iri_normal.specs.Answers.{answer_in}

-- what stands between a page and its link
abbrev pub tab : ℕ
tab = 9

-- the answer to a line that asks nothing
abbrev pub bad_line : List ℕ
bad_line = codes "bad line" ++ line_feed ∷ []

-- the words for a page that is refused
abbrev pub base_answer : ErrorKind → List ℕ
base_answer kind = codes "base " ++ (description kind ++ line_feed ∷ [])

-- the answer to a link, but where its page is refused
abbrev pub unless_page : Option ErrorKind → List ℕ → List ℕ
unless_page None answer = answer
unless_page (Some kind) answer = base_answer kind

-- The answer to a link on a page: that of `canon`, where the page is the base.
abbrev pub answer_on : Tests → CanonMode → List ℕ → Option (List ℕ) → List ℕ
answer_on s mode page None = bad_line
answer_on s mode page (Some link) = unless_page (bytes_fault (absolute_fault s) page) (answer_in s mode page link)

-- The answer to a line: its page stands before the first tab, its link after it. Where there is no tab the line asks nothing.
unfoldable pub pairs_answer : Tests → CanonMode → List ℕ → List ℕ
pairs_answer s mode line = answer_on s mode (before tab line) (after tab line)
