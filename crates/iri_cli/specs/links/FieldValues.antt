-- The command `links`: field values, and how they are answered (RFC 8288 section 3).
use Rattle.std.specs.Prelude.{◌≡◌, ℕ, List, None, Some, map}
use Rattle.std.specs.Str.{IsUtf8}
use Rattle.std.specs.Str.Lossy.{utf8_valid_len}
use Rattle.iri_grammar.specs.Classes.{Tests}
use Rattle.iri_link.specs.declared.error.LinkKind.TheVariants.{NotUtf8}
use Rattle.iri_percent.specs.declared.canon_mode.CanonMode.{CanonMode}
use Rattle.iri_link.specs.Fault.{Told, field_fault}
use Rattle.iri_link.specs.Field.{LinkValue, IsField}
use Rattle.iri_link.specs.LaxReadings.{lax_links_in}
use Rattle.iri_link.specs.Links.{HasLinks}
use Rattle.iri_link.specs.Resolved.{resolved_in}
use Rattle.iri_link.specs.Written.{written}
use Rattle.iri_cli.specs.canon.Answers.{refusal}
use Rattle.iri_cli.specs.links.Answers.{field_refusal, lax_answer, links_answer, links_line}

-- What is answered to each line.
pub record AnswersAreLinks (s : Tests) (mode : CanonMode) : Type 0 where
  -- a field value has one list of link-values
  pub one : (line : List ℕ) (ls others : List LinkValue) → IsField line ls → IsField line others → ls ≡ others
  -- a field value whose targets are URI-references is answered by it, each target by its canonical text
  pub links : (base line : List ℕ) (ls : List LinkValue) → HasLinks s line ls → links_answer s mode base line ≡ links_line s mode base ls
  -- every other line is answered by its first fault
  pub others : (base line : List ℕ) → ((ls : List LinkValue) → ¬ (HasLinks s line ls))
      → (t : Told) × (field_fault s line ≡ Some t) × (links_answer s mode base line ≡ field_refusal t)
  -- what is written of a field value has the same answer, against every base
  pub again : (base other line : List ℕ) (ls : List LinkValue) → refusal s base ≡ None → HasLinks s line ls
      → links_answer s mode other (written (map (resolved_in s mode base) ls)) ≡ links_answer s mode base line

-- What is answered to each line that is read laxly.
pub record LaxAnswersAreLinks (s : Tests) (mode : CanonMode) : Type 0 where
  -- a text is answered by the link-values that are read laxly, each target by its canonical text
  pub links : (base line : List ℕ) → IsUtf8 line → lax_answer s mode base line ≡ links_line s mode base (lax_links_in s line)
  -- a field value whose targets are URI-references is answered as by `links`
  pub alike : (base line : List ℕ) → field_fault s line ≡ None → lax_answer s mode base line ≡ links_answer s mode base line
  -- every other line is answered by how much of it is UTF-8
  pub others : (base line : List ℕ) → ¬ (IsUtf8 line)
      → lax_answer s mode base line ≡ field_refusal (record { kind = NotUtf8; place = utf8_valid_len line })
