-- The command `canon` with `to uri`: what is answered to a line, and what a good answer says (RFC 3987 section 3.1).
use Rattle.std.specs.Prelude.{◌≡◌, ℕ, List, None}
use Rattle.iri_grammar.specs.Classes.{Tests, uri_tests}
use Rattle.iri_grammar.specs.Fault.{bytes_fault}
use Rattle.iri_grammar.specs.Parts.{IsIri, IsAbsolute}
use Rattle.iri_grammar.specs.Split.{split_of}
use Rattle.iri_grammar.specs.WholeFault.{reference_fault}
use Rattle.iri_percent.specs.Mapping.{mapped}
use Rattle.iri_percent.specs.declared.canon_mode.CanonMode.{CanonMode}
use Rattle.iri_normal.specs.Answers.{answer_by, good_answer}
use Rattle.iri_normal.specs.NormalForm.{canonical_in, canonical_parts_in}
use Rattle.iri_cli.specs.canon.Answers.{refusal}

-- the answer to a line: the canonical text of its reference, mapped to a URI; or the words for the reference's first fault
unfoldable pub uri_answer : Tests → CanonMode → List ℕ → List ℕ → List ℕ
uri_answer s mode base line = answer_by (bytes_fault (reference_fault s) line) (mapped (canonical_in s mode base line))

-- What a good answer says: its text is that of `canon`, mapped. So it is the canonical text under `uri` of base and reference, both mapped:
-- a URI that splits into exactly that normal form, and is its own canonical text against every base.
pub record IsCanonicalUri (s : Tests) (mode : CanonMode) (base line : List ℕ) : Type 0 where
  pub text : List ℕ
  pub answer_is : uri_answer s mode base line ≡ good_answer text
  pub mapped_is : text ≡ mapped (canonical_in s mode base line)
  pub canonical_is : text ≡ canonical_in uri_tests mode (mapped base) (mapped line)
  pub valid : IsIri uri_tests text
  pub splits : split_of text ≡ canonical_parts_in uri_tests mode (mapped base) (mapped line)
  pub own : (other : List ℕ) → IsAbsolute uri_tests other → canonical_in uri_tests mode other text ≡ text

-- What is said of each base that is taken and each line without a fault.
abbrev pub AnswersAreCanonicalUris : Tests → CanonMode → Type 0
AnswersAreCanonicalUris s mode = (base line : List ℕ) → refusal s base ≡ None → bytes_fault (reference_fault s) line ≡ None
    → IsCanonicalUri s mode base line
