-- What is held back of a value that comes in pieces: triplets, until there are as many as a character may have, and the beginning of one more.
use Rattle.std.specs.Prelude.{ℕ, zero, ◌-◌, ◌%◌, Bool, true, false, cond, ◌&&◌, ◌==◌, List, [], ◌∷◌, Option, Some, None, length}
use Rattle.std.specs.Char.{is_ascii_hexdigit}
use Rattle.std.specs.List.{flat_map}
use Rattle.iri_grammar.specs.Characters.{percent_sign}
use Rattle.iri_grammar.specs.Classes.{Tests, any_char, unreserved}
use Rattle.iri_percent.specs.Encoding.{encoded_char}
use Rattle.iri_percent.specs.Units.{TextUnit, Stray, is_triplet, first_unit, unit_text}
use Rattle.iri_template.specs.Expansion.{limited, kept_unit}

-- ---- how much may still be written
-- so many fewer
abbrev pub fewer : Option ℕ → ℕ → Option ℕ
fewer None n = None
fewer (Some m) n = Some (m - n)

-- none may be written any more
abbrev pub is_used_up : Option ℕ → Bool
is_used_up (Some zero) = true
is_used_up left = false

-- the units that may be written, where triplets stay
abbrev pub written_units : Tests → Option ℕ → List TextUnit → List ℕ
written_units s left us = flat_map (kept_unit s) (limited left us)

-- the characters that stay
abbrev pub stays : Tests → Bool → ℕ → Bool
stays s true c = any_char s c
stays s false c = unreserved s c

-- the characters that may be written, each encoded for itself
abbrev pub written_chars : Tests → Bool → Option ℕ → List ℕ → List ℕ
written_chars s allow left cs = flat_map (encoded_char (stays s allow)) (limited left cs)

-- ---- what is held back
-- triplets, and the beginning of one more
abbrev pub is_begun : List ℕ → Bool
is_begun [] = true
is_begun (x ∷ []) = x == percent_sign
is_begun (x ∷ a ∷ []) = x == percent_sign && is_ascii_hexdigit a
is_begun (x ∷ a ∷ b ∷ t) = is_triplet x a b && is_begun t

-- a character goes on with it
abbrev pub goes_on : List ℕ → ℕ → Bool
goes_on t c = cond (length t % 3 == 0) (c == percent_sign) (is_ascii_hexdigit c)

-- the unit with which it begins
abbrev pub held_unit : List ℕ → TextUnit
held_unit [] = Stray
held_unit (x ∷ xs) = first_unit x xs

-- how many bytes that has
abbrev pub unit_len : List ℕ → ℕ
unit_len t = length (unit_text (held_unit t))
