-- What the rules say of a text, as a function. The law `rules_are_decided` says that it is what IsAllowed says.
use Rattle.std.specs.Prelude.{ℕ, Bool, true, false, cond, max, ◌==◌, ◌&&◌, ◌||◌, List, [], ◌∷◌, Option, Some, None, codes, length, filter}
use Rattle.std.specs.List.{list_any}
use Rattle.std.specs.Str.{bytes_eq}
use Rattle.iri_grammar.specs.Characters.{asterisk, percent_sign}
use Rattle.iri_grammar.specs.Parts.{is_empty}
use Rattle.iri_robots.specs.Patterns.{dollar_sign, digit_two, digit_four, capital_a, is_anchored, without_anchor}
use Rattle.iri_robots.specs.Records.{FileRule}

-- what a pattern is made of: a `*`, an escape with this letter of this special character, any other character
pub data Piece : Type 0 where
  AnyText : Piece
  Escape : (letter special : ℕ) → Piece
  Character : (c : ℕ) → Piece

-- the special character that an escape of these characters stands for
unfoldable pub special_of : ℕ → ℕ → ℕ → Option ℕ
special_of c d e =
    cond (c == percent_sign && d == digit_two) (cond (e == capital_a) (Some asterisk) (cond (e == digit_four) (Some dollar_sign) None)) None

unfoldable pub piece_of : ℕ → Piece
piece_of c = cond (c == asterisk) AnyText (Character c)

unfoldable pub pieces : List ℕ → List Piece
pieces [] = []
pieces (c ∷ []) = piece_of c ∷ []
pieces (c ∷ d ∷ []) = piece_of c ∷ piece_of d ∷ []
pieces (c ∷ d ∷ e ∷ q) = elim (special_of c d e) [ Some special ↦ Escape e special ∷ pieces q | None ↦ piece_of c ∷ pieces (d ∷ e ∷ q) ]

-- some suffix of the text passes
unfoldable pub some_suffix : (List ℕ → Bool) → List ℕ → Bool
some_suffix test [] = test []
some_suffix test (c ∷ s) = elim (test (c ∷ s)) [ true ↦ true | false ↦ some_suffix test s ]

-- the text begins with this character, and what is after it passes
unfoldable pub begins : ℕ → (List ℕ → Bool) → List ℕ → Bool
begins c test [] = false
begins c test (d ∷ s) = elim (c == d) [ true ↦ test s | false ↦ false ]

-- the text is a filling of the pieces, or where they aren't anchored a prefix of it is
unfoldable pub fills : Bool → List Piece → List ℕ → Bool
fills anchored [] s = cond anchored (is_empty s) true
fills anchored (AnyText ∷ ps) s = some_suffix (fills anchored ps) s
fills anchored (Escape letter special ∷ ps) s =
    begins special (fills anchored ps) s || begins percent_sign (begins digit_two (begins letter (fills anchored ps))) s
fills anchored (Character c ∷ ps) s = begins c (fills anchored ps) s

-- the pattern matches the text
unfoldable pub is_match : List ℕ → List ℕ → Bool
is_match [] s = false
is_match (c ∷ p) s = fills (is_anchored (c ∷ p)) (pieces (without_anchor (c ∷ p))) s

-- the rules that match the text
unfoldable pub matching : List FileRule → List ℕ → List FileRule
matching rules s = filter (λ r. is_match r.pattern s) rules

-- the most bytes of a pattern
unfoldable pub most_bytes : List FileRule → ℕ
most_bytes [] = 0
most_bytes (r ∷ rules) = max (length r.pattern) (most_bytes rules)

-- an allow rule is among those with the longest patterns
unfoldable pub longest_allow : List FileRule → Bool
longest_allow rules = list_any (λ r. r.allows && (length r.pattern == most_bytes rules)) rules

-- no rule matches, or an allow rule is among those with the longest patterns that do
abbrev pub allow : List FileRule → Bool
allow [] = true
allow (r ∷ rules) = longest_allow (r ∷ rules)

-- the rules allow the text
unfoldable pub is_allowed : List FileRule → List ℕ → Bool
is_allowed rules s = bytes_eq s (codes "/robots.txt") || allow (matching rules s)
