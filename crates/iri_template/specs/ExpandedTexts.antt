-- Expansions as texts.
use Rattle.std.specs.Prelude.{◌≡◌, ◌≤◌, ◌<◌, ℕ, List, Option, Some, None, length, ⊤}
use Rattle.std.specs.String.{string_bytes}
use Rattle.std.specs.declared.alloc.Global.{Global}
use Rattle.std.specs.declared.string.String.{String}
use Rattle.iri_grammar.specs.Classes.{Tests}
use Rattle.iri_grammar.specs.declared.error.ErrorKind.{ErrorKind}
use Rattle.iri_template.specs.Expansion.{expansion}
use Rattle.iri_template.specs.Reading.{pieces_of}
use Rattle.iri_template.specs.ShownValues.{ShownValue}
use Rattle.iri_template.specs.Texts.{text}
use Rattle.iri_template.specs.declared.expanded.Expanded.{Expanded}
use Rattle.iri_template.specs.declared.expanded.ExpandedError.{ExpandedError}
use Rattle.iri_template.specs.declared.expanded.ExpandedError.TheVariants.{Invalid, Memory}

-- the expansion of the template with the values of the context
abbrev pub expanded_text : {S C : Type 0} {g : _} → Tests → (C → List ℕ → ShownValue) → Expanded S C g → List ℕ
expanded_text s value_of e = expansion s (value_of e.context.now) (pieces_of (text e.template))

-- the text is handed out with its fault; allocation failure says nothing of it
abbrev pub RefusedAs : ExpandedError → List ℕ → Option ErrorKind → Type 0
RefusedAs (Invalid e) t fault = (string_bytes e.source ≡ t) × (fault ≡ Some e.error.kind)
RefusedAs (Memory e) t fault = ⊤

-- a text that is there where it has at most so many bytes
abbrev pub IsWithin : ℕ → List ℕ → Option (String Global) → Type 0
IsWithin limit t (Some x) = (string_bytes x ≡ t) × (length t ≤ limit)
IsWithin limit t None = limit < length t
