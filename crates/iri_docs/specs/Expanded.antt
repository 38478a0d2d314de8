-- The canonical text of a template's expansion, or why there is none.
use Rattle.std.specs.Prelude.{◌≡◌, ◌≤◌, ℕ, nat_lt, List, length, if◌then◌else◌, None, Result, Ok, Err}
use Rattle.iri_grammar.specs.Classes.{Tests}
use Rattle.iri_grammar.specs.Parts.{IsReference}
use Rattle.iri_grammar.specs.WholeFault.{reference_fault}
use Rattle.iri_template.specs.Expansion.{expansion}
use Rattle.iri_template.specs.Reading.{pieces_of}
use Rattle.iri_template.specs.ShownValues.{ShownValue}
use Rattle.iri_template.specs.Template.{Piece, Spells}
use Rattle.iri_template.specs.TypeFaults.{expansion_fault, type_fault}
use Rattle.iri_percent.specs.declared.canon_mode.CanonMode.{CanonMode}
use Rattle.iri_normal.specs.NormalForm.{canonical_in}
use Rattle.iri_docs.specs.Documents.{result_and_then, unless}
use Rattle.iri_docs.specs.Held.{Held}
use Rattle.iri_text.specs.Limits.{largest_line_limit}
use Rattle.iri_docs.specs.declared.expand_error.DocExpandError.{DocExpandError}
use Rattle.iri_docs.specs.declared.expand_error.DocExpandError.TheVariants.{Template, TooLong, Invalid}

-- how many bytes an expansion may have
abbrev pub expansion_limit : ℕ
expansion_limit = largest_line_limit

abbrev pub within_limit : List ℕ → Result (List ℕ) DocExpandError
within_limit text = if nat_lt expansion_limit (length text) then Err TooLong else Ok text

-- the expansion of a template where names have these values (RFC 6570 section 3); it is refused for a fault, then for its length
abbrev pub expansion_within : Tests → (List ℕ → ShownValue) → List ℕ → Result (List ℕ) DocExpandError
expansion_within s value template =
    unless Template (expansion_fault value template) (within_limit (expansion s value (pieces_of template)))

-- the canonical text of a reference against a base by the rules of a mode (RFC 3986 sections 5.2, 6.2.2 and 6.2.3), or the reference's
-- first fault
abbrev pub canonical_or_fault : Tests → CanonMode → List ℕ → List ℕ → Result (List ℕ) DocExpandError
canonical_or_fault s mode base text =
    unless (λ kind. Invalid (record { kind = kind })) (reference_fault s text) (Ok (canonical_in s mode base text))

-- the canonical text of a template's expansion against a base, or why there is none
abbrev pub expanded : Tests → CanonMode → List ℕ → (List ℕ → ShownValue) → List ℕ → Result (List ℕ) DocExpandError
expanded s mode base value template = result_and_then (canonical_or_fault s mode base) (expansion_within s value template)

-- The text is that of a document against a base, in a mode: these pieces spell its template, no varspec has a value that it has no use for, and the
-- expansion of the pieces with its values is within the limit and a `URI-reference`, whose canonical text this is.
pub record IsExpanded (s : Tests) (mode : CanonMode) (base : List ℕ) (document : Held) (text : List ℕ) : Type 0 where
  pub pieces : List Piece
  pub spelled : Spells pieces document.template
  pub typed : type_fault document.value_of pieces ≡ None
  pub within : length (expansion s document.value_of pieces) ≤ expansion_limit
  pub reference : IsReference s (expansion s document.value_of pieces)
  pub canonical_is : text ≡ canonical_in s mode base (expansion s document.value_of pieces)
