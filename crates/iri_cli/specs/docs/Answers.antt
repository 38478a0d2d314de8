-- The command `docs`: what is answered to a line.
use Rattle.std.specs.Prelude.{ℕ, List, [], ◌∷◌, ◌++◌, Result, Ok, Err}
use Rattle.iri_grammar.specs.Classes.{Tests}
use Rattle.iri_percent.specs.declared.canon_mode.CanonMode.{CanonMode}
use Rattle.iri_docs.specs.Documents.{line_document}
use Rattle.iri_docs.specs.ErrorTexts.{description}
use Rattle.iri_docs.specs.Held.{Held}
use Rattle.iri_docs.specs.declared.doc_error.DocError.{DocError}
use Rattle.iri_text.specs.LineEnds.{line_feed}
use Rattle.iri_cli.specs.expand.Answers.{template_answer}

-- The answer to a document: that of `expand` to its template, where variables have its own values, and no other (RFC 6570 section 3). Where
-- there is none, the words for its fault are the answer.
abbrev pub read_answer : Tests → CanonMode → List ℕ → Result Held DocError → List ℕ
read_answer s mode base (Ok d) = template_answer s mode base d.value_of d.template
read_answer s mode base (Err e) = description e ++ line_feed ∷ []

-- The answer to a line: that to the document that it is, or the words for its first fault.
unfoldable pub docs_answer : Tests → CanonMode → List ℕ → List ℕ → List ℕ
docs_answer s mode base line = read_answer s mode base (line_document line)
