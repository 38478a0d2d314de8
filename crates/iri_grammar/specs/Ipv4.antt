-- IPv4 texts (RFC 3986 section 3.2.2).
use Rattle.std.specs.Prelude.{ℕ, Bool, false, ◌&&◌, ◌||◌, ◌==◌, List, [], ◌∷◌}
use Rattle.std.specs.Char.{is_ascii_digit}
use Rattle.std.specs.Int.{is_in_range}
use Rattle.iri_grammar.specs.Pieces.{pieces}
use Rattle.iri_grammar.specs.Characters.{dot}

-- three digits that are a number from 100 to 255: `1` and two digits, `2` and `0` to `4` and a digit, `25` and `0` to `5`
unfoldable pub is_hundreds : ℕ → ℕ → ℕ → Bool
is_hundreds a b c =
    (a == 49 && is_ascii_digit b && is_ascii_digit c) || (a == 50 && is_in_range 48 52 b && is_ascii_digit c)
    || (a == 50 && b == 53 && is_in_range 48 53 c)

-- `dec-octet`: a number from 0 to 255 without leading zero
abbrev pub is_dec_octet : List ℕ → Bool
is_dec_octet [] = false
is_dec_octet (a ∷ []) = is_ascii_digit a
is_dec_octet (a ∷ b ∷ []) = is_in_range 49 57 a && is_ascii_digit b
is_dec_octet (a ∷ b ∷ c ∷ []) = is_hundreds a b c
is_dec_octet (a ∷ b ∷ c ∷ d ∷ ds) = false

abbrev pub are_four_octets : List (List ℕ) → Bool
are_four_octets (a ∷ b ∷ c ∷ d ∷ []) = is_dec_octet a && is_dec_octet b && is_dec_octet c && is_dec_octet d
are_four_octets _ = false

-- `IPv4address`: four numbers parted by dots
abbrev pub is_ipv4 : List ℕ → Bool
is_ipv4 t = are_four_octets (pieces dot t)
