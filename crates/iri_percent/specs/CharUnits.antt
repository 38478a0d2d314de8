-- The units of a text, character by character (RFC 3986 sections 2.1 and 6.2.2.2, RFC 3987 section 5.3.2.3).
use Rattle.std.specs.Prelude.{ℕ, List, [], ◌∷◌, Option, Some, None}
use Rattle.std.specs.Char.{encode_utf8}
use Rattle.iri_percent.specs.Units.{TextUnit, Plain, IllFormed, first_char, first_unit, text_by, read_from}

-- a byte outside triplets gives way to the character that it begins
abbrev pub by_character : TextUnit → Option ℕ → TextUnit
by_character (Plain x) (Some c) = Plain c
by_character (Plain x) None = IllFormed x
by_character u o = u

-- the unit with which the text x ∷ xs begins
abbrev pub first_char_unit : ℕ → List ℕ → TextUnit
first_char_unit x xs = by_character (first_unit x xs) (first_char (x ∷ xs))

-- the bytes of a unit
abbrev pub char_unit_text : TextUnit → List ℕ
char_unit_text u = text_by encode_utf8 u

-- a text read where a character outside triplets is one unit
abbrev pub char_units : List ℕ → List TextUnit
char_units t = read_from first_char_unit char_unit_text 0 t

-- ---- the same byte by byte. That it gives the same is a law
abbrev pub plains : List ℕ → List TextUnit
plains [] = []
plains (x ∷ xs) = Plain x ∷ plains xs

-- what a unit is where the text is read byte by byte: a character is a unit for each byte of its UTF-8
abbrev pub byte_units : TextUnit → List TextUnit
byte_units (Plain c) = plains (encode_utf8 c)
byte_units (IllFormed b) = Plain b ∷ []
byte_units u = u ∷ []
