-- Patterns of rules (RFC 9309 sections 2.2.2 and 2.2.3). A text is the list of its bytes.
use Rattle.std.specs.Prelude.{◌≡◌, ◌≢◌, ℕ, Bool, true, false, cond, ◌==◌, List, [], ◌∷◌, ◌++◌}
use Rattle.std.specs.Prelude.{◌+◌, ◌||◌, codes}
use Rattle.std.specs.List.{starts_with}
use Rattle.iri_grammar.specs.Characters.{asterisk, percent_sign}

abbrev pub dollar_sign : ℕ
dollar_sign = 36

-- the digits of the triplets `%2A` and `%24`
abbrev pub digit_two : ℕ
digit_two = 50

abbrev pub digit_four : ℕ
digit_four = 52

abbrev pub capital_a : ℕ
capital_a = 65

-- A filling of a pattern: some text stands in the place of each `*`, `%2A` or `*` in the place of each `%2A`, `%24` or
-- `$` in the place of each `%24`, and every other character as it is
pub data IsFilling : List ℕ → List ℕ → Type 0 where
  nothing : IsFilling [] []
  star : (t q s : List ℕ) → IsFilling q s → IsFilling (asterisk ∷ q) (t ++ s)
  escaped_star : (q s : List ℕ) → IsFilling q s → IsFilling (percent_sign ∷ digit_two ∷ capital_a ∷ q) (asterisk ∷ s)
  escaped_dollar : (q s : List ℕ) → IsFilling q s → IsFilling (percent_sign ∷ digit_two ∷ digit_four ∷ q) (dollar_sign ∷ s)
  -- as it is: so `%2A` is filled by its three characters too
  same : (c : ℕ) (q s : List ℕ) → c ≢ asterisk → IsFilling q s → IsFilling (c ∷ q) (c ∷ s)

-- some prefix of the text is a filling
pub record HasFilledPrefix (q s : List ℕ) : Type 0 where
  pub prefix : List ℕ
  pub rest : List ℕ
  pub split : s ≡ prefix ++ rest
  pub filled : IsFilling q prefix

-- a `$` at the end of a pattern anchors it at the end of the text
abbrev pub is_anchored : List ℕ → Bool
is_anchored [] = false
is_anchored (c ∷ []) = c == dollar_sign
is_anchored (c ∷ d ∷ p) = is_anchored (d ∷ p)

-- the pattern without the `$` at its end, where it has one
abbrev pub without_anchor : List ℕ → List ℕ
without_anchor [] = []
without_anchor (c ∷ []) = cond (c == dollar_sign) [] (c ∷ [])
without_anchor (c ∷ d ∷ p) = c ∷ without_anchor (d ∷ p)

-- the whole text is a filling, or some prefix is
abbrev pub IsFilledBy : Bool → List ℕ → List ℕ → Type 0
IsFilledBy true q s = IsFilling q s
IsFilledBy false q s = HasFilledPrefix q s

-- the pattern matches the text; an empty pattern matches none
pub record Matches (p s : List ℕ) : Type 0 where
  pub some : p ≢ []
  pub filled : IsFilledBy (is_anchored p) (without_anchor p) s

-- an escape `%2A` or `%24`, or a `$`, which `%24` is filled by too, stands at the start
abbrev pub begins_escape : List ℕ → Bool
begins_escape q = starts_with ◌==◌ q (codes "%2A") || starts_with ◌==◌ q (codes "%24") || starts_with ◌==◌ q (codes "$")

-- how many of these a pattern has
unfoldable pub escapes : List ℕ → ℕ
escapes [] = 0
escapes (c ∷ q) = cond (begins_escape (c ∷ q)) 1 0 + escapes q
