-- What a scan of a text over a class takes at a time: ASCII characters of the class and triplets, or one character.
use Rattle.std.specs.Prelude.{◌≡◌, ℕ, ◌<◌, ◌≤◌, Bool, true, false, ◌&&◌, ◌==◌, List, [], ◌∷◌, length, take, slice_index}
use Rattle.std.specs.Char.{encode_utf8, is_ascii_hexdigit}
use Rattle.std.specs.Int.{is_in_range}
use Rattle.std.specs.Str.{chars}
use Rattle.iri_grammar.specs.Cut.{tail}
use Rattle.iri_grammar.specs.Over.{text_over}

-- the first byte is a hex digit
abbrev pub begins_with_digit : List ℕ → Bool
begins_with_digit [] = false
begins_with_digit (a ∷ cs) = is_ascii_hexdigit a

abbrev pub begins_with_triplet : List ℕ → Bool
begins_with_triplet [] = false
begins_with_triplet (x ∷ xs) = x == 37 && (begins_with_digit xs && begins_with_digit (tail xs))

-- the first byte goes on a character (RFC 3629 section 3)
abbrev pub begins_with_more : List ℕ → Bool
begins_with_more [] = false
begins_with_more (x ∷ xs) = is_in_range 128 191 x

-- in its first n bytes t has a character from U+00C0 to U+D7FF
pub record BeginsWide (t : List ℕ) (n : ℕ) : Type 0 where
  pub c : ℕ
  pub low : 192 ≤ c
  pub high : c ≤ 55295
  pub within : n ≤ length t
  pub text : take n t ≡ encode_utf8 c

-- the first character is of the class
abbrev pub first_passes : (ℕ → Bool) → List ℕ → Bool
first_passes p [] = false
first_passes p (c ∷ cs) = p c

-- no unit stands at the start of t
abbrev pub HasNoUnit : (ℕ → Bool) → List ℕ → Type 0
HasNoUnit p t = (begins_with_triplet t ≡ false) × (first_passes p (chars t) ≡ false)

-- units of the class stand before i in t
pub record AreUnits (p : ℕ → Bool) (t : List ℕ) (i : ℕ) : Type 0 where
  pub within : i ≤ length t
  pub over : text_over p (take i t) ≡ true

-- no triplet and no ASCII character of the class stands at the start of t
pub record LacksNearUnit (p : ℕ → Bool) (t : List ℕ) : Type 0 where
  pub triplet : begins_with_triplet t ≡ false
  pub ascii : slice_index t 0 < 128 → 0 < length t → p (slice_index t 0) ≡ false
