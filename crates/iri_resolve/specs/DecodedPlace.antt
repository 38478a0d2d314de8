-- A place of a text where a character in triplets stands (RFC 3986 section 6.2.2.2).
use Rattle.std.specs.Prelude.{◌≡◌, ℕ, true, List, ◌∷◌, ◌++◌, length}
use Rattle.std.specs.List.{flat_map}
use Rattle.iri_grammar.specs.Classes.{Tests, unreserved}
use Rattle.iri_percent.specs.CharUnits.{char_units, char_unit_text}
use Rattle.iri_percent.specs.Units.{TextUnit, Char}

-- one of the text's units is an unreserved character in triplets, and begins at this byte
pub record IsCharacterAt (s : Tests) (i : ℕ) (t : List ℕ) : Type 0 where
  pub c : ℕ
  pub spelling : List ℕ
  pub before : List TextUnit
  pub after : List TextUnit
  pub split : char_units t ≡ before ++ Char c spelling ∷ after
  pub place : length (flat_map char_unit_text before) ≡ i
  pub free : unreserved s c ≡ true
