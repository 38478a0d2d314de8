-- Triplet normal form (RFC 3986 sections 6.2.2.1 and 6.2.2.2, RFC 3987 section 5.3.2.3).
use Rattle.std.specs.Prelude.{ℕ, cond, List, [], ◌∷◌, map, Option, Some, None}
use Rattle.std.specs.List.{flat_map}
use Rattle.std.specs.Char.{to_ascii_uppercase, encode_utf8}
use Rattle.iri_grammar.specs.Classes.{Tests, unreserved}
use Rattle.iri_percent.specs.Units.{TextUnit, Plain, Char, Lone, Stray, IllFormed, first_char}
use Rattle.iri_percent.specs.CharUnits.{char_units}
use Rattle.iri_grammar.specs.Characters.{percent_sign}

-- a unit in normal form, where f is done to what stands outside triplets: a character in triplets that is unreserved
-- is written as itself, every other triplet has capital hex digits
abbrev pub unit_form : Tests → (ℕ → ℕ) → TextUnit → List ℕ
unit_form s f (Plain c) = map f (encode_utf8 c)
unit_form s f (Char c spelling) = cond (unreserved s c) (map f (encode_utf8 c)) (map to_ascii_uppercase spelling)
unit_form s f (Lone a b) = percent_sign ∷ to_ascii_uppercase a ∷ to_ascii_uppercase b ∷ []
unit_form s f Stray = percent_sign ∷ []
unit_form s f (IllFormed b) = f b ∷ []

-- a text in normal form, where f is done to what stands outside triplets
unfoldable pub normal : Tests → (ℕ → ℕ) → List ℕ → List ℕ
normal s f t = flat_map (unit_form s f) (char_units t)

abbrev pub as_it_is : ℕ → ℕ
as_it_is c = c

-- the triplet normal form of a text
abbrev pub pct : Tests → List ℕ → List ℕ
pct s t = normal s as_it_is t

-- what a unit is in that form: a decoded character stands outside triplets
abbrev pub unit_in_form : Tests → TextUnit → TextUnit
unit_in_form s (Char c spelling) = cond (unreserved s c) (Plain c) (Char c (map to_ascii_uppercase spelling))
unit_in_form s (Lone a b) = Lone (to_ascii_uppercase a) (to_ascii_uppercase b)
unit_in_form s u = u

-- the unreserved character with which the octets begin
abbrev pub unreserved_only : Tests → Option ℕ → Option ℕ
unreserved_only s None = None
unreserved_only s (Some c) = cond (unreserved s c) (Some c) None

abbrev pub decoded : Tests → List ℕ → Option ℕ
decoded s os = unreserved_only s (first_char os)
