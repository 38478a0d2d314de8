-- Changes of a text at one place (RFC 3986 sections 6.2.2.1 and 6.2.2.2). A place is a number of bytes.
use Rattle.std.specs.Prelude.{ℕ, ◌+◌, ◌*◌, Bool, not, cond, ◌&&◌, List, ◌++◌, Option, Some, None, take, drop, slice_index, slice_set}
use Rattle.std.specs.Char.{is_ascii_hexdigit, is_ascii_lowercase, is_ascii_uppercase, to_ascii_lowercase, to_ascii_uppercase, len_utf8}
use Rattle.std.specs.Char.{encode_utf8}
use Rattle.iri_grammar.specs.Classes.{Tests}
use Rattle.iri_percent.specs.Units.{octets, whole_triplets}
use Rattle.iri_percent.specs.Triplets.{decoded}

-- the byte at i stands inside a triplet: the `%` of a triplet stands before it, and its two digits don't
abbrev pub is_in_triplet : ℕ → List ℕ → Bool
is_in_triplet i t = not (whole_triplets (take i t))

-- the capital at i becomes small
unfoldable pub with_small_letter : ℕ → List ℕ → Option (List ℕ)
with_small_letter i t = cond (is_ascii_uppercase (slice_index t i)) (Some (slice_set t i (to_ascii_lowercase (slice_index t i)))) None

-- the capital at i, outside triplets, becomes small
unfoldable pub with_small_host_letter : ℕ → List ℕ → Option (List ℕ)
with_small_host_letter i t = cond (is_in_triplet i t) None (with_small_letter i t)

abbrev pub is_small_digit : ℕ → Bool
is_small_digit x = is_ascii_hexdigit x && is_ascii_lowercase x

-- the small hex digit at i, inside a triplet, becomes a capital
unfoldable pub with_capital_digit : ℕ → List ℕ → Option (List ℕ)
with_capital_digit i t = cond (is_in_triplet i t && is_small_digit (slice_index t i))
    (Some (slice_set t i (to_ascii_uppercase (slice_index t i)))) None

-- a character stands in the place of the triplets from i on that spell it
abbrev pub with_character : ℕ → List ℕ → Option ℕ → Option (List ℕ)
with_character i t None = None
with_character i t (Some c) = Some (take i t ++ (encode_utf8 c ++ drop (i + 3 * len_utf8 c) t))

-- the triplets from i on that spell an unreserved character become that character
unfoldable pub with_decoded : Tests → ℕ → List ℕ → Option (List ℕ)
with_decoded s i t = with_character i t (decoded s (octets (drop i t)))
