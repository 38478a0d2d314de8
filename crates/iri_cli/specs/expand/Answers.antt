-- The command `expand`: what is answered to a line.
use Rattle.std.specs.Prelude.{ℕ, List, [], ◌∷◌, ◌++◌, Result, Ok, Err}
use Rattle.iri_grammar.specs.Classes.{Tests}
use Rattle.iri_docs.specs.ErrorTexts.{expand_description}
use Rattle.iri_docs.specs.Expanded.{expansion_within}
use Rattle.iri_docs.specs.declared.expand_error.DocExpandError.{DocExpandError}
use Rattle.iri_text.specs.LineEnds.{line_feed}
use Rattle.iri_percent.specs.declared.canon_mode.CanonMode.{CanonMode}
use Rattle.iri_normal.specs.Answers.{answer_in}
use Rattle.iri_cli.specs.run.Refused.{bad_line}
use Rattle.iri_cli.specs.expand.Lines.{ExpandLine, changes, expands, bad, Values, line_of, values_after}

-- An expansion is answered as `canon` in the mode answers it as a reference line: by its canonical text, or by its first fault. Where there is none, the
-- words for its cause are the answer.
abbrev pub expansion_answer : Tests → CanonMode → List ℕ → Result (List ℕ) DocExpandError → List ℕ
expansion_answer s mode base (Ok text) = answer_in s mode base text
expansion_answer s mode base (Err e) = expand_description e ++ line_feed ∷ []

-- The answer to a template, where variables have these values: its fault (RFC 6570 section 2), the first length for a list or an
-- associative array that isn't empty (section 2.4.1), or what is answered to its expansion (section 3).
unfoldable pub template_answer : Tests → CanonMode → List ℕ → Values → List ℕ → List ℕ
template_answer s mode base values template = expansion_answer s mode base (expansion_within s values template)

-- the answer to what a line says; a line that changes a variable has none
abbrev pub answer_to : Tests → CanonMode → List ℕ → Values → ExpandLine → List ℕ
answer_to s mode base values (changes change) = []
answer_to s mode base values (expands template) = template_answer s mode base values template
answer_to s mode base values bad = bad_line

-- the answer to a line after a base and other lines
abbrev pub expand_answer : Tests → CanonMode → List ℕ → List (List ℕ) → List ℕ → List ℕ
expand_answer s mode base between line = answer_to s mode base (values_after between) (line_of line)
