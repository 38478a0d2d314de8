-- The command `robots`: the verdict on a link (RFC 9309 section 2.2.2).
use Rattle.std.specs.Prelude.{◌≡◌, ℕ, codes, List, [], ◌∷◌, ◌++◌, None}
use Rattle.iri_grammar.specs.Classes.{Tests}
use Rattle.iri_grammar.specs.Fault.{bytes_fault}
use Rattle.iri_grammar.specs.Parts.{Parts}
use Rattle.iri_grammar.specs.Split.{split_of}
use Rattle.iri_grammar.specs.WholeFault.{reference_fault}
use Rattle.iri_percent.specs.declared.canon_mode.CanonMode.{CanonMode}
use Rattle.iri_normal.specs.NormalForm.{canonical_in}
use Rattle.iri_robots.specs.Allowed.{IsAllowed}
use Rattle.iri_robots.specs.Compared.{subject}
use Rattle.iri_robots.specs.Records.{FileRule, rules_for}
use Rattle.iri_text.specs.LineEnds.{line_feed}
use Rattle.iri_cli.specs.robots.Answers.{normal_base, robots_answer}
use Rattle.iri_cli.specs.robots.Lines.{asks, line_of, records_after}

-- scheme and authority are the same
pub record IsSameSite (a b : Parts) : Type 0 where
  pub scheme : a.scheme ≡ b.scheme
  pub authority : a.authority ≡ b.authority

-- The word for a target: it is of the base's site, and the rules allow what they speak of in it, or they don't; or it is of another site.
pub data IsVerdict (base : Parts) (rules : List FileRule) (target : Parts) : List ℕ → Type 0 where
  allow : IsSameSite base target → IsAllowed rules (subject target) → IsVerdict base rules target (codes "allow ")
  disallow : IsSameSite base target → ¬ (IsAllowed rules (subject target)) → IsVerdict base rules target (codes "disallow ")
  other : ¬ (IsSameSite base target) → IsVerdict base rules target (codes "other ")

-- The answer to a reference after a base and lines: the verdict on its canonical text in the mode by the rules of these lines for a token,
-- and that text.
pub record HasVerdict (s : Tests) (mode : CanonMode) (token base : List ℕ) (between : List (List ℕ)) (reference answer : List ℕ) : Type 0 where
  pub word : List ℕ
  pub verdict : IsVerdict (split_of (normal_base s mode base)) (rules_for token (records_after between))
      (split_of (canonical_in s mode base reference)) word
  pub answer_is : answer ≡ word ++ (canonical_in s mode base reference ++ line_feed ∷ [])

-- What is answered to each line that asks of a reference without a fault.
abbrev pub AnswersAreVerdicts : Tests → CanonMode → List ℕ → Type 0
AnswersAreVerdicts s mode token = (base line reference : List ℕ) (between : List (List ℕ)) → line_of line ≡ asks reference
    → bytes_fault (reference_fault s) reference ≡ None
    → HasVerdict s mode token base between reference (robots_answer s mode token base between line)
