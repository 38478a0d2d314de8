-- The command `pairs`: its answers are those of `canon`.
use Rattle.std.specs.Prelude.{◌≡◌, ℕ, true, List, [], ◌∷◌, ◌++◌, None, Some}
use Rattle.iri_grammar.specs.Classes.{Tests}
use Rattle.iri_grammar.specs.Cut.{lacks}
use Rattle.iri_grammar.specs.Fault.{bytes_fault}
use Rattle.iri_grammar.specs.WholeFault.{reference_fault}
use Rattle.iri_percent.specs.declared.canon_mode.CanonMode.{CanonMode}
use Rattle.iri_normal.specs.Pairs.{bad_line, pairs_answer, tab}
use Rattle.iri_cli.specs.canon.Answers.{IsCanonical, refusal}
use Rattle.iri_cli.specs.canon.Rules.{canon_rules_in}
use Rattle.iri_cli.specs.pairs.Rules.{pairs_rules, no_page, pair_uri_answer, pairs_to_uri_rules}
use Rattle.iri_cli.specs.run.Ending.{base_line}
use Rattle.iri_cli.specs.to_uri.Answers.{IsCanonicalUri}
use Rattle.iri_cli.specs.to_uri.Rules.{to_uri_rules}

-- a line is this page, a tab, and this link; a page has no tab, and a link may have some
pub record IsPair (line page link : List ℕ) : Type 0 where
  pub split : line ≡ page ++ tab ∷ link
  pub no_tab : lacks tab page ≡ true

-- what `canon` answers to a link where this page is the base line
abbrev pub canon_answer : Tests → CanonMode → List ℕ → List ℕ → List ℕ
canon_answer s mode page link = (canon_rules_in s mode).answer page [] link

-- The answer to a line: it has no tab; or its page is refused as a base line of `canon` is; or it is what `canon` answers to its link after that
-- base line, and where the link has no fault, a canonical text.
pub data IsPairAnswer (s : Tests) (mode : CanonMode) (line : List ℕ) : List ℕ → Type 0 where
  no_pair : lacks tab line ≡ true → IsPairAnswer s mode line bad_line
  bad_page : (page link words : List ℕ) → IsPair line page link → refusal s page ≡ Some words → IsPairAnswer s mode line (base_line words)
  on_page : (page link : List ℕ) → IsPair line page link → refusal s page ≡ None
      → (bytes_fault (reference_fault s) link ≡ None → IsCanonical s mode page link)
      → IsPairAnswer s mode line (canon_answer s mode page link)

-- What is said of each line, whatever lines stand before it; and the fixed base is never refused.
pub record AnswersAreOfCanon (s : Tests) (mode : CanonMode) : Type 0 where
  pub own : (base : List ℕ) (between : List (List ℕ)) (line : List ℕ)
      → (pairs_rules s mode).answer base between line ≡ pairs_answer s mode line
  pub of_canon : (line : List ℕ) → IsPairAnswer s mode line (pairs_answer s mode line)
  pub base_taken : refusal s no_page ≡ None

-- The same with `to uri`: what `canon` with `to uri` answers to the link after that base line, and where the link has no fault, a canonical text
-- mapped to a URI.
pub data IsPairUriAnswer (s : Tests) (mode : CanonMode) (line : List ℕ) : List ℕ → Type 0 where
  no_pair_uri : lacks tab line ≡ true → IsPairUriAnswer s mode line bad_line
  bad_page_uri : (page link words : List ℕ) → IsPair line page link → refusal s page ≡ Some words → IsPairUriAnswer s mode line (base_line words)
  on_page_uri : (page link : List ℕ) → IsPair line page link → refusal s page ≡ None
      → (bytes_fault (reference_fault s) link ≡ None → IsCanonicalUri s mode page link)
      → IsPairUriAnswer s mode line ((to_uri_rules s mode).answer page [] link)

-- What is said of each line, whatever lines stand before it.
pub record AnswersAreOfCanonUris (s : Tests) (mode : CanonMode) : Type 0 where
  pub own : (base : List ℕ) (between : List (List ℕ)) (line : List ℕ)
      → (pairs_to_uri_rules s mode).answer base between line ≡ pair_uri_answer s mode line
  pub of_canon : (line : List ℕ) → IsPairUriAnswer s mode line (pair_uri_answer s mode line)
