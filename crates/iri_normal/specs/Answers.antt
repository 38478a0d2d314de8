-- The line that answers a reference line.
use Rattle.std.specs.Prelude.{ℕ, codes, List, [], ◌∷◌, ◌++◌, Option, Some, None}
use Rattle.iri_grammar.specs.Classes.{Tests}
use Rattle.iri_grammar.specs.ErrorTexts.{description}
use Rattle.iri_grammar.specs.Fault.{bytes_fault}
use Rattle.iri_grammar.specs.WholeFault.{reference_fault}
use Rattle.iri_grammar.specs.declared.error.ErrorKind.{ErrorKind}
use Rattle.iri_text.specs.LineEnds.{line_feed}
use Rattle.iri_percent.specs.declared.canon_mode.CanonMode.{CanonMode}
use Rattle.iri_normal.specs.NormalForm.{canonical_in}

abbrev pub good_answer : List ℕ → List ℕ
good_answer text = codes "ok " ++ (text ++ line_feed ∷ [])

abbrev pub bad_answer : ErrorKind → List ℕ
bad_answer kind = codes "bad " ++ (description kind ++ line_feed ∷ [])

abbrev pub answer_by : Option ErrorKind → List ℕ → List ℕ
answer_by None text = good_answer text
answer_by (Some kind) text = bad_answer kind

-- the line, with its LF, that answers a reference line against a base: its canonical text by the rules of a mode
-- (RFC 3986 sections 5.2, 6.2.2 and 6.2.3), or the words for its first fault where it isn't UTF-8 or no `URI-reference`
unfoldable pub answer_in : Tests → CanonMode → List ℕ → List ℕ → List ℕ
answer_in s mode base line = answer_by (bytes_fault (reference_fault s) line) (canonical_in s mode base line)
