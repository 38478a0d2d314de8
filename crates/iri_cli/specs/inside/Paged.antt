-- A run of `pairs` on its way.
use Rattle.std.specs.Prelude.{◌≡◌, ℕ, Bool, true, List, None}
use Rattle.iri_grammar.specs.Classes.{Tests}
use Rattle.iri_grammar.specs.Cut.{lacks}
use Rattle.iri_percent.specs.declared.canon_mode.CanonMode.TheVariants.{Default}
use Rattle.iri_text.specs.Line.{LineState}
use Rattle.iri_normal.specs.Answers.{answer_in}
use Rattle.iri_normal.specs.Pairs.{pairs_answer, tab}
use Rattle.iri_cli.specs.canon.Answers.{refusal}
use Rattle.iri_cli.specs.declared.pairs.link.LinkText.{LinkText}
use Rattle.iri_cli.specs.declared.pairs.link.LinkText.TheVariants.{Canonical, Mapped}
use Rattle.iri_cli.specs.inside.Going.{Beginning, Waits}
use Rattle.iri_cli.specs.pairs.Rules.{pair_uri_answer, pairs_rules}
use Rattle.iri_cli.specs.run.Ending.{Rules}
use Rattle.iri_cli.specs.run.Run.{Outside}
use Rattle.iri_cli.specs.to_uri.Answers.{uri_answer}

-- the answer to a link on a page that is taken
abbrev pub link_answer : Tests → LinkText → List ℕ → List ℕ → List ℕ
link_answer s (Canonical mode) = answer_in s mode
link_answer s (Mapped mode) = uri_answer s mode

-- the answer to a line
abbrev pub line_answer : Tests → LinkText → List ℕ → List ℕ
line_answer s (Canonical mode) = pairs_answer s mode
line_answer s (Mapped mode) = pair_uri_answer s mode

-- the rules of `pairs`, by what it answers links by
abbrev pub paged_rules : Tests → LinkText → Rules
paged_rules s by = record (pairs_rules s Default) { answer = λ base between line. line_answer s by line }

-- A page that is taken. It has no tab.
pub record IsPage (s : Tests) (page : List ℕ) : Type 0 where
  pub taken : refusal s page ≡ None
  pub no_tab : lacks tab page ≡ true

-- the run began with these rules, and the reader's line waits for its answer
abbrev pub WaitsBy : Rules → Beginning → LineState → Outside → Bool → Type 0
WaitsBy rules b reader now good = (b.start.rules ≡ rules) × Waits b reader now good
