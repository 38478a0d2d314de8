-- The command `links`: what is answered to a line (RFC 8288 section 3).
use Rattle.std.specs.Prelude.{ℕ, cond, codes, decimal, List, [], ◌∷◌, ◌++◌, Option, None, Some, map}
use Rattle.iri_grammar.specs.Classes.{Tests}
use Rattle.iri_percent.specs.declared.canon_mode.CanonMode.{CanonMode}
use Rattle.std.specs.Str.{is_utf8}
use Rattle.std.specs.Str.Lossy.{utf8_valid_len}
use Rattle.iri_link.specs.declared.error.LinkKind.TheVariants.{NotUtf8}
use Rattle.iri_link.specs.ErrorTexts.{words}
use Rattle.iri_link.specs.Fault.{Told, field_fault}
use Rattle.iri_link.specs.Field.{LinkValue}
use Rattle.iri_link.specs.LaxReadings.{lax_links_in}
use Rattle.iri_link.specs.Readings.{links_in}
use Rattle.iri_link.specs.Resolved.{resolved_in}
use Rattle.iri_link.specs.Written.{written}
use Rattle.iri_text.specs.LineEnds.{line_feed}
use Rattle.iri_normal.specs.Answers.{good_answer}

-- the first fault of a field value, and how many bytes stand before it
abbrev pub field_refusal : Told → List ℕ
field_refusal t = codes "bad " ++ ((words t.kind ++ (codes " at " ++ decimal t.place)) ++ line_feed ∷ [])

-- link-values in their written form, each with its target's canonical text against a base
abbrev pub links_text : Tests → CanonMode → List ℕ → List LinkValue → List ℕ
links_text s mode base links = written (map (resolved_in s mode base) links)

-- the answer to them
abbrev pub links_line : Tests → CanonMode → List ℕ → List LinkValue → List ℕ
links_line s mode base links = good_answer (links_text s mode base links)

abbrev pub unless_told : Option Told → List ℕ → List ℕ
unless_told None answer = answer
unless_told (Some t) answer = field_refusal t

-- The answer to a line: the link-values that it has as the value of a `Link` field, or its first fault.
unfoldable pub links_answer : Tests → CanonMode → List ℕ → List ℕ → List ℕ
links_answer s mode base line = unless_told (field_fault s line) (links_line s mode base (links_in line))

-- The answer to a line that is read laxly: the link-values that it has then (RFC 8288 appendix B.2), or that it isn't UTF-8.
unfoldable pub lax_answer : Tests → CanonMode → List ℕ → List ℕ → List ℕ
lax_answer s mode base line =
    cond (is_utf8 line) (links_line s mode base (lax_links_in s line)) (field_refusal (record { kind = NotUtf8; place = utf8_valid_len line }))
