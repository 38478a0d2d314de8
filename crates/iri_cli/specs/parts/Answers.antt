-- The command `parts`: what is answered to a line, and what a good answer says (RFC 3986 section 3).
use Rattle.std.specs.Prelude.{◌≡◌, ℕ, true, List, Option, None, Some}
use Rattle.std.specs.List.{list_all}
use Rattle.iri_grammar.specs.Authority.{ReadsAuthority, authority_parts}
use Rattle.iri_grammar.specs.Classes.{Tests}
use Rattle.iri_grammar.specs.ErrorTexts.{description}
use Rattle.iri_grammar.specs.Fault.{bytes_fault}
use Rattle.iri_grammar.specs.Parts.{Parts, IsIri, Splits}
use Rattle.iri_grammar.specs.Split.{split_of}
use Rattle.iri_grammar.specs.WholeFault.{reference_fault}
use Rattle.iri_grammar.specs.declared.error.ErrorKind.{ErrorKind}
use Rattle.iri_percent.specs.declared.canon_mode.CanonMode.{CanonMode}
use Rattle.iri_normal.specs.NormalForm.{canonical_in}
use Rattle.iri_cli.specs.canon.Answers.{refusal}
use Rattle.iri_cli.specs.parts.Object.{bad_text, is_unescaped, parts_text}

-- the answer by a reference's first fault, and by a text with these parts where it has none
abbrev pub parts_line : Option ErrorKind → List ℕ → Parts → List ℕ
parts_line None text p = parts_text text p
parts_line (Some kind) text p = bad_text (description kind)

-- the answer to a line: the canonical text of its reference and the parts of that text, or the reference's first fault, as JSON
unfoldable pub parts_answer : Tests → CanonMode → List ℕ → List ℕ → List ℕ
parts_answer s mode base line =
    parts_line (bytes_fault (reference_fault s) line) (canonical_in s mode base line) (split_of (canonical_in s mode base line))

-- What a good answer says: it is the canonical text, a URI of the spec, with the components of the one split of this text, and with the
-- userinfo, host and port of the one reading of its authority; and no byte of it needs an escape.
pub record IsTakenApart (s : Tests) (mode : CanonMode) (base line : List ℕ) : Type 0 where
  pub text : List ℕ
  pub parts : Parts
  pub canonical_is : text ≡ canonical_in s mode base line
  pub valid : IsIri s text
  pub splits : Splits s text parts
  pub one : (other : Parts) → Splits s text other → other ≡ parts
  pub authority : (a : List ℕ) → parts.authority ≡ Some a → ReadsAuthority s a (authority_parts a)
  pub unescaped : list_all is_unescaped text ≡ true
  pub answer_is : parts_answer s mode base line ≡ parts_text text parts

-- What is said of each base that is taken and each line without a fault.
abbrev pub AnswersAreTakenApart : Tests → CanonMode → Type 0
AnswersAreTakenApart s mode = (base line : List ℕ) → refusal s base ≡ None → bytes_fault (reference_fault s) line ≡ None
    → IsTakenApart s mode base line
