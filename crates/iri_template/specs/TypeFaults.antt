-- Values that a varspec with a prefix has no use for (RFC 6570 section 2.4.1).
use Rattle.std.specs.Prelude.{ℕ, Bool, false, cond, List, [], ◌∷◌, Option, None}
use Rattle.iri_template.specs.Template.{Piece}
use Rattle.iri_template.specs.VarSpecs.{Placed}
use Rattle.iri_template.specs.Places.{placed_pieces}
use Rattle.iri_template.specs.Fault.{fault, first, template_fault}
use Rattle.iri_template.specs.Reading.{pieces_of}
use Rattle.iri_template.specs.ShownValues.{ShownValue, has_members}
use Rattle.iri_template.specs.declared.error.Error.{Error}
use Rattle.iri_template.specs.declared.error.ErrorKind.TheVariants.{UnexpectedValueType}
use Rattle.iri_template.specs.declared.varspec.Modifier.{Modifier}
use Rattle.iri_template.specs.declared.varspec.Modifier.TheVariants.{Prefix}

-- a prefix for a list or an associative array that isn't empty
abbrev pub is_mistyped : Modifier → ShownValue → Bool
is_mistyped (Prefix n) v = has_members v
is_mistyped m v = false

-- the first of these varspecs with such a value, at its first byte
abbrev pub placed_type_fault : (List ℕ → ShownValue) → List Placed → Option Error
placed_type_fault value [] = None
placed_type_fault value (p ∷ ps) =
    cond (is_mistyped p.modifier (value p.name)) (fault UnexpectedValueType p.location) (placed_type_fault value ps)

-- the first in a template's pieces
abbrev pub type_fault : (List ℕ → ShownValue) → List Piece → Option Error
type_fault value ps = placed_type_fault value (placed_pieces 0 ps)

-- the first fault of bytes as a template, or else of the type of a value
abbrev pub expansion_fault : (List ℕ → ShownValue) → List ℕ → Option Error
expansion_fault value bs = first (template_fault bs) (type_fault value (pieces_of bs))
