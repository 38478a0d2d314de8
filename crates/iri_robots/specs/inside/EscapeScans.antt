-- How escapes are counted byte by byte.
use Rattle.std.specs.Prelude.{◌≡◌, ℕ, ◌+◌, ◌<◌, Bool, cond, ◌==◌, ◌||◌, List, ◌∷◌, ◌++◌, Option, Some, None}
use Rattle.iri_grammar.specs.Characters.{percent_sign}
use Rattle.iri_robots.specs.Patterns.{capital_a, digit_four, digit_two, dollar_sign, escapes}
use Rattle.iri_robots.specs.declared.escape.Begun.{Begun}
use Rattle.iri_robots.specs.declared.escape.Begun.TheVariants.{Nothing, Percent, PercentTwo}
use Rattle.iri_robots.specs.declared.escape.Scan.{Scan}

-- what is begun stands before what is left
abbrev pub begun_then : Begun → List ℕ → List ℕ
begun_then Nothing t = t
begun_then Percent t = percent_sign ∷ t
begun_then PercentTwo t = percent_sign ∷ digit_two ∷ t

-- after a byte that is no `%`
abbrev pub going_on : Begun → ℕ → Begun
going_on Nothing b = Nothing
going_on Percent b = cond (b == digit_two) PercentTwo Nothing
going_on PercentTwo b = Nothing

abbrev pub begun_after : Begun → ℕ → Begun
begun_after begun b = cond (b == percent_sign) Percent (going_on begun b)

-- an escape ends with this byte
abbrev pub ends_escape : Begun → ℕ → Bool
ends_escape Nothing b = b == dollar_sign
ends_escape Percent b = b == dollar_sign
ends_escape PercentTwo b = b == dollar_sign || (b == capital_a || b == digit_four)

-- The escapes that end in some bytes take their number from the room, whatever follows; or they are too many for it.
abbrev pub Counts : Scan → List ℕ → Option Scan → Type 0
Counts a bytes (Some b) = (rest : List ℕ)
    → a.room + escapes (begun_then b.begun rest) ≡ b.room + escapes (begun_then a.begun (bytes ++ rest))
Counts a bytes None = (rest : List ℕ) → a.room < escapes (begun_then a.begun (bytes ++ rest))
