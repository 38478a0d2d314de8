-- Why a base line is refused, and what a good answer to a reference line says.
use Rattle.std.specs.Prelude.{◌≡◌, ℕ, List, Option, None, option_map}
use Rattle.iri_grammar.specs.Classes.{Tests}
use Rattle.iri_grammar.specs.Fault.{bytes_fault}
use Rattle.iri_grammar.specs.ErrorTexts.{description}
use Rattle.iri_grammar.specs.Parts.{IsIri, IsAbsolute}
use Rattle.iri_grammar.specs.Split.{split_of}
use Rattle.iri_grammar.specs.WholeFault.{absolute_fault, reference_fault}
use Rattle.iri_percent.specs.declared.canon_mode.CanonMode.{CanonMode}
use Rattle.iri_normal.specs.NormalForm.{canonical_in, canonical_parts_in}
use Rattle.iri_normal.specs.Answers.{good_answer, answer_in}

-- a base is to be UTF-8 and an `absolute-URI` (RFC 3986 section 4.3): otherwise the words for its first fault
unfoldable pub refusal : Tests → List ℕ → Option (List ℕ)
refusal s line = option_map description (bytes_fault (absolute_fault s) line)

-- What a good answer says: its text is a URI of the spec, splits into exactly the normal form of the target, and is its own
-- canonical text against every base.
pub record IsCanonical (s : Tests) (mode : CanonMode) (base line : List ℕ) : Type 0 where
  pub text : List ℕ
  pub answer_is : answer_in s mode base line ≡ good_answer text
  pub canonical_is : text ≡ canonical_in s mode base line
  pub valid : IsIri s text
  pub splits : split_of text ≡ canonical_parts_in s mode base line
  pub own : (other : List ℕ) → IsAbsolute s other → canonical_in s mode other text ≡ text

-- What is said of each base that is taken and each line without a fault.
abbrev pub AnswersAreCanonicalIn : Tests → CanonMode → Type 0
AnswersAreCanonicalIn s mode = (base line : List ℕ) → refusal s base ≡ None → bytes_fault (reference_fault s) line ≡ None
    → IsCanonical s mode base line
