-- A text that is read piece by piece.
use Rattle.std.specs.Prelude.{◌≡◌, ℕ, ◌<◌, Bool, true, List, [], ◌∷◌, ◌++◌, length}
use Rattle.std.specs.Str.{IsAscii, chars}
use Rattle.iri_grammar.specs.Cut.{lacks}
use Rattle.iri_grammar.specs.Characters.{percent_sign}
use Rattle.iri_percent.specs.Units.{units, Char as CharUnit}
use Rattle.iri_template.specs.declared.encoded_value.Piece.{Piece}
use Rattle.iri_template.specs.declared.encoded_value.Piece.TheVariants.{Run, Octets, Char}

abbrev pub piece_chars : Piece → List ℕ
piece_chars (Run t) = chars t.now
piece_chars (Octets t) = chars t.now
piece_chars (Char c) = c ∷ []

-- percent-encoded octets of a character: whatever follows them, they are its unit
pub record IsOctets (c : ℕ) (t : List ℕ) : Type 0 where
  pub ascii : IsAscii t
  pub unit : (r : List ℕ) → units (t ++ r) ≡ CharUnit c t ∷ units r

-- a run has no `%`. It is read, and so are octets, only where this holds
abbrev pub IsPieceWhere : Type 0 → Piece → Type 0
IsPieceWhere P (Run t) = P × (lacks percent_sign t.now ≡ true)
IsPieceWhere P (Octets t) = P × ((c : ℕ) × IsOctets c t.now)
IsPieceWhere P (Char c) = Unit {0}

-- what is read first of a text, and the rest
pub record IsCut (plain : Bool) (t : List ℕ) (piece : Piece) (rest : List ℕ) : Type 0 where
  pub whole : chars t ≡ piece_chars piece ++ chars rest
  pub shorter : length rest < length t
  pub at_once : IsPieceWhere (plain ≡ true) piece
