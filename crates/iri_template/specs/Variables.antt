-- What the iterators over varspecs and variables have left.
use Rattle.std.specs.Prelude.{◌≡◌, ℕ, ◌-◌, List, ◌++◌, map, drop, length, Option}
use Rattle.std.specs.Iterator.{YieldsFirstBy}
use Rattle.iri_template.specs.VarSpecs.{Placed}
use Rattle.iri_template.specs.Places.{placed_varspecs, placed_pieces, placed_name}
use Rattle.iri_template.specs.Reading.{pieces_of}
use Rattle.iri_template.specs.Left.{varspecs_of, left_len}
use Rattle.iri_template.specs.declared.var_name.VarName.{VarName}
use Rattle.iri_template.specs.declared.varspecs.VarSpecs.{VarSpecs}
use Rattle.iri_template.specs.declared.variables.UriTemplateVariables.{UriTemplateVariables}

-- varspecs of an expression
abbrev pub varspecs_left : VarSpecs → List Placed
varspecs_left v = placed_varspecs (v.end - left_len v.text) (varspecs_of v.text)

-- those, and the varspecs of the parts that follow
abbrev pub placed_left : UriTemplateVariables → List Placed
placed_left v = varspecs_left v.varspecs ++ placed_pieces (v.parts.len - length v.parts.rest.now) (pieces_of v.parts.rest.now)

-- names with their places
abbrev pub places_left : UriTemplateVariables → List (ℕ × List ℕ)
places_left v = map placed_name (placed_left v)

abbrev pub names_left : UriTemplateVariables → List (List ℕ)
names_left v = map (λ p. p.1) (places_left v)

-- a call gives the first of the names, whose place goes with it, or none where no name is left
abbrev pub GivesName : UriTemplateVariables → Option VarName → UriTemplateVariables → Type 0
GivesName old given new = (YieldsFirstBy (λ n. n.text.now) names_left old given new) × (places_left new ≡ drop 1 (places_left old))
