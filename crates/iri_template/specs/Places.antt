-- The varspecs of a template with their places: how many bytes of the template stand before each.
use Rattle.std.specs.Prelude.{ℕ, ◌+◌, List, [], ◌∷◌, ◌++◌, length, map}
use Rattle.iri_template.specs.Template.{VarSpec, Piece, literal, triplet, expression, operator_text, varspec_text, piece_text}
use Rattle.iri_template.specs.VarSpecs.{Placed, placed_at}

-- of varspecs, a comma between each two, that begin at this place (RFC 6570 section 2.3)
abbrev pub placed_varspecs : ℕ → List VarSpec → List Placed
placed_varspecs at [] = []
placed_varspecs at (v ∷ vs) = placed_at at v ∷ placed_varspecs (at + length (varspec_text v) + 1) vs

-- of a piece: those of an expression follow its brace and its operator (section 2.2)
abbrev pub placed_within : ℕ → Piece → List Placed
placed_within at (literal c) = []
placed_within at (triplet a b) = []
placed_within at (expression operator vs) = placed_varspecs (at + 1 + length (operator_text operator)) vs

-- of pieces, from left to right
abbrev pub placed_pieces : ℕ → List Piece → List Placed
placed_pieces at [] = []
placed_pieces at (p ∷ ps) = placed_within at p ++ placed_pieces (at + length (piece_text p)) ps

-- their names, each as often as it stands there
abbrev pub placed_name : Placed → ℕ × List ℕ
placed_name p = (p.location, p.name)

abbrev pub placed_names : ℕ → List Piece → List (ℕ × List ℕ)
placed_names at ps = map placed_name (placed_pieces at ps)
