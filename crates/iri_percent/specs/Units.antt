-- The units of a text (RFC 3986 sections 2.1 and 6.2.2.2, RFC 3987 section 5.3.2.3). A text is the list of its bytes.
use Rattle.std.specs.Prelude.{◌≡◌, ℕ, zero, suc, ◌+◌, ◌*◌, ◌-◌, Bool, true, false, cond, ◌&&◌, ◌==◌, List, [], ◌∷◌, Option, Some, None}
use Rattle.std.specs.Prelude.{length, take}
use Rattle.std.specs.Char.{is_ascii_hexdigit, digit_value, len_utf8, encode_utf8}
use Rattle.std.specs.Str.{chars}
use lib.Utf8.{scalar}
use Rattle.iri_grammar.specs.Characters.{percent_sign}

-- what a text is read as: a character outside triplets, or where a text is read byte by byte, a byte outside them; a character in triplets whose octets are its UTF-8;
-- a triplet where no such character begins; a `%` that begins no triplet; a byte of no character, of which UTF-8 has none
pub data TextUnit : Type 0 where
  Plain : (c : ℕ) → TextUnit
  Char : (c : ℕ) (spelling : List ℕ) → TextUnit
  Lone : (a b : ℕ) → TextUnit
  Stray : TextUnit
  IllFormed : (b : ℕ) → TextUnit

-- `pct-encoded`: `%` and two hex digits
abbrev pub is_triplet : ℕ → ℕ → ℕ → Bool
is_triplet x a b = x == percent_sign && (is_ascii_hexdigit a && is_ascii_hexdigit b)

-- the octet that two hex digits spell
abbrev pub octet : ℕ → ℕ → ℕ
octet a b = digit_value a * 16 + digit_value b

-- the octets of the triplets with which a text begins
abbrev pub octets : List ℕ → List ℕ
octets (x ∷ a ∷ b ∷ xs) = cond (is_triplet x a b) (octet a b ∷ octets xs) []
octets xs = []

abbrev pub starts_with : List ℕ → List ℕ → Bool
starts_with xs [] = true
starts_with [] (y ∷ ys) = false
starts_with (x ∷ xs) (y ∷ ys) = x == y && starts_with xs ys

-- the first of these characters, where it is a scalar value and its UTF-8 stands at the start of the octets
abbrev pub well_formed : List ℕ → List ℕ → Option ℕ
well_formed os [] = None
well_formed os (c ∷ cs) = cond (scalar c && starts_with os (encode_utf8 c)) (Some c) None

-- the character with whose well-formed UTF-8 the octets begin
unfoldable pub first_char : List ℕ → Option ℕ
first_char os = well_formed os (chars os)

-- the unit with which a text begins, where it is read byte by byte
abbrev pub triplet_unit : ℕ → ℕ → List ℕ → Option ℕ → TextUnit
triplet_unit a b t (Some c) = Char c (take (3 * len_utf8 c) t)
triplet_unit a b t None = Lone a b

abbrev pub byte_unit : ℕ → TextUnit
byte_unit x = cond (x == percent_sign) Stray (Plain x)

abbrev pub first_unit : ℕ → List ℕ → TextUnit
first_unit x (a ∷ b ∷ xs) = cond (is_triplet x a b) (triplet_unit a b (x ∷ a ∷ b ∷ xs) (first_char (octets (x ∷ a ∷ b ∷ xs)))) (byte_unit x)
first_unit x xs = byte_unit x

-- the bytes of a unit, where what stands outside triplets has these
abbrev pub text_by : (ℕ → List ℕ) → TextUnit → List ℕ
text_by bytes (Plain c) = bytes c
text_by bytes (Char c spelling) = spelling
text_by bytes (Lone a b) = percent_sign ∷ a ∷ b ∷ []
text_by bytes Stray = percent_sign ∷ []
text_by bytes (IllFormed b) = b ∷ []

-- the bytes of a unit that is read byte by byte
abbrev pub unit_text : TextUnit → List ℕ
unit_text u = text_by (λ c. c ∷ []) u

-- a text read from the left, by its first unit and the bytes of that; so many bytes at the start belong to a unit already
unfoldable pub read_from : (ℕ → List ℕ → TextUnit) → (TextUnit → List ℕ) → ℕ → List ℕ → List TextUnit
read_from first bytes n [] = []
read_from first bytes (suc n) (x ∷ xs) = read_from first bytes n xs
read_from first bytes zero (x ∷ xs) = first x xs ∷ read_from first bytes (length (bytes (first x xs)) - 1) xs

-- a text read byte by byte
abbrev pub units : List ℕ → List TextUnit
units t = read_from first_unit unit_text 0 t

abbrev pub two_digits : List ℕ → Bool
two_digits (a ∷ b ∷ xs) = is_ascii_hexdigit a && is_ascii_hexdigit b
two_digits xs = false

-- each `%` is followed by two hex digits, so that none is stray
unfoldable pub whole_triplets : List ℕ → Bool
whole_triplets [] = true
whole_triplets (x ∷ xs) = cond (x == percent_sign) (two_digits xs) true && whole_triplets xs

-- a byte that is no part of a triplet
pub record IsOutsideTriplets (m : ℕ) : Type 0 where
  pub percent : (m == percent_sign) ≡ false
  pub digit : is_ascii_hexdigit m ≡ false
