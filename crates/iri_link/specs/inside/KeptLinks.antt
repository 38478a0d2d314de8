-- Which link-values are kept, piece by piece.
use Rattle.std.specs.Prelude.{◌≡◌, ℕ, List, [], ◌∷◌, ◌++◌, ⊤, None}
use Rattle.iri_grammar.specs.Classes.{Tests}
use Rattle.iri_grammar.specs.WholeFault.{reference_fault}
use Rattle.iri_percent.specs.declared.canon_mode.CanonMode.{CanonMode}
use Rattle.iri_normal.specs.NormalForm.{canonical_in}
use Rattle.iri_link.specs.Field.{LinkParam, LinkValue}
use Rattle.iri_link.specs.declared.piece.Piece.{Piece}
use Rattle.iri_link.specs.declared.piece.Piece.TheVariants.{Target, Param}
use Rattle.iri_link.specs.inside.Pieces.{param_said}

-- the last link-value with these parameters more
abbrev pub grown : List LinkValue → List LinkParam → List LinkValue
grown [] ps = []
grown (l ∷ []) ps = record { target = l.target; params = l.params ++ ps } ∷ []
grown (l ∷ m ∷ ls) ps = l ∷ grown (m ∷ ls) ps

-- what is kept, past a piece
abbrev pub kept_past : Tests → CanonMode → (base : List ℕ) → List LinkValue → Piece → List LinkValue
kept_past s mode base ls (Target target) = ls ++ record { target = canonical_in s mode base target.now; params = [] } ∷ []
kept_past s mode base ls (Param p) = grown ls (param_said p ∷ [])
kept_past s mode base ls _ = ls

-- a target is a `URI-Reference`
abbrev pub IsValid : Tests → Piece → Type 0
IsValid s (Target target) = reference_fault s target.now ≡ None
IsValid s _ = ⊤

-- what takes memory: a target, and a parameter where a link-value is kept
abbrev pub Wants : List LinkValue → Piece → Type 0
Wants ls (Target target) = ⊤
Wants ls (Param p) = ls ≡ [] → ⊥
Wants ls _ = ⊥
