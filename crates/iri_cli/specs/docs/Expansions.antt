-- The command `docs`: template documents, and how they are answered (RFC 6570 section 3).
use Rattle.std.specs.Prelude.{◌≡◌, ◌≤◌, ◌<◌, ℕ, List, [], ◌∷◌, ◌++◌, length, None, Some, Result, Ok, Err}
use Rattle.iri_docs.specs.Documents.{line_document}
use Rattle.iri_docs.specs.ErrorTexts.{description}
use Rattle.iri_docs.specs.Expanded.{expansion_limit}
use Rattle.iri_docs.specs.Held.{Held}
use Rattle.iri_docs.specs.declared.doc_error.DocError.{DocError}
use Rattle.iri_docs.specs.declared.expand_error.DocExpandError.{DocExpandError}
use Rattle.iri_docs.specs.declared.expand_error.DocExpandError.TheVariants.{Template, TooLong}
use Rattle.iri_grammar.specs.Classes.{Tests}
use Rattle.iri_percent.specs.declared.canon_mode.CanonMode.{CanonMode}
use Rattle.iri_template.specs.Expansion.{expansion}
use Rattle.iri_template.specs.Fault.{template_fault}
use Rattle.iri_template.specs.Template.{Piece, Spells, IsTemplate}
use Rattle.iri_template.specs.TypeFaults.{type_fault}
use Rattle.iri_template.specs.declared.error.Error.{Error}
use Rattle.iri_text.specs.LineEnds.{line_feed}
use Rattle.iri_cli.specs.docs.Answers.{docs_answer}
use Rattle.iri_cli.specs.expand.Answers.{expansion_answer}

-- the expansion of a document's template with its values, and no other; or why there is none
pub data IsExpansion (s : Tests) (d : Held) : Result (List ℕ) DocExpandError → Type 0 where
  -- no pieces spell the template, of which this is the first fault
  no_template : (e : Error) → ¬ (IsTemplate d.template) → template_fault d.template ≡ Some e → IsExpansion s d (Err (Template e))
  -- pieces spell it, and this is the first fault of a value's type
  faulty : (ps : List Piece) (e : Error) → Spells ps d.template → type_fault d.value_of ps ≡ Some e → IsExpansion s d (Err (Template e))
  -- each value has a type that is taken, and the expansion has too many bytes
  longer : (ps : List Piece) → Spells ps d.template → type_fault d.value_of ps ≡ None
      → expansion_limit < length (expansion s d.value_of ps) → IsExpansion s d (Err TooLong)
  expanded : (ps : List Piece) → Spells ps d.template → type_fault d.value_of ps ≡ None
      → length (expansion s d.value_of ps) ≤ expansion_limit → IsExpansion s d (Ok (expansion s d.value_of ps))

-- The answer to a line against a base: it is no document, for this fault; or a document, whose expansion is answered as `canon` in the mode
-- answers it.
pub data IsDocumentAnswer (s : Tests) (mode : CanonMode) (base line : List ℕ) : List ℕ → Type 0 where
  no_document : (e : DocError) → line_document line ≡ Err e → IsDocumentAnswer s mode base line (description e ++ line_feed ∷ [])
  document : (d : Held) (text : Result (List ℕ) DocExpandError) → line_document line ≡ Ok d → IsExpansion s d text
      → IsDocumentAnswer s mode base line (expansion_answer s mode base text)

-- What is answered to each line.
abbrev pub AnswersAreExpansions : Tests → CanonMode → Type 0
AnswersAreExpansions s mode = (base line : List ℕ) → IsDocumentAnswer s mode base line (docs_answer s mode base line)
