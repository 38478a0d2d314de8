-- What is shown of a walk over a text, piece by piece.
use Rattle.std.specs.Prelude.{ℕ, cond, List, [], ◌∷◌, ◌++◌, codes, is_none}
use Rattle.iri_grammar.specs.Classes.{Tests}
use Rattle.iri_grammar.specs.WholeFault.{reference_fault}
use Rattle.iri_percent.specs.declared.canon_mode.CanonMode.{CanonMode}
use Rattle.iri_normal.specs.NormalForm.{canonical_in}
use Rattle.iri_link.specs.Characters.{greater_than_sign, less_than_sign}
use Rattle.iri_link.specs.Written.{written_param}
use Rattle.iri_link.specs.declared.piece.Piece.{Piece}
use Rattle.iri_link.specs.declared.piece.Piece.TheVariants.{Target, Param}
use Rattle.iri_link.specs.declared.shown_text.Place.{Place}
use Rattle.iri_link.specs.declared.shown_text.Place.TheVariants.{First, Later, Within}
use Rattle.iri_link.specs.inside.Pieces.{param_said}

-- what stands before the next target
abbrev pub between_at : Place → List ℕ
between_at First = []
between_at _ = codes ", "

-- where a link-value that isn't shown leaves
abbrev pub passed_at : Place → Place
passed_at First = First
passed_at _ = Later

-- where a piece leaves
abbrev pub place_past : Tests → Place → Piece → Place
place_past s place (Target target) = cond (is_none (reference_fault s target.now)) Within (passed_at place)
place_past s place _ = place

-- what is shown of a target, and of a piece
abbrev pub target_text : Tests → CanonMode → (base : List ℕ) → Place → List ℕ → List ℕ
target_text s mode base place target =
    (between_at place ++ less_than_sign ∷ []) ++ (canonical_in s mode base target ++ greater_than_sign ∷ [])

abbrev pub piece_text : Tests → CanonMode → (base : List ℕ) → Place → Piece → List ℕ
piece_text s mode base place (Target target) = cond (is_none (reference_fault s target.now)) (target_text s mode base place target.now) []
piece_text s mode base Within (Param p) = written_param (param_said p)
piece_text s mode base place _ = []
