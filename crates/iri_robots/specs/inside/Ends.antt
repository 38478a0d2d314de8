-- How a pattern without `*` is filled at the end of a text.
use Rattle.std.specs.Prelude.{◌≡◌, ◌≢◌, ◌↔◌, ℕ, ◌-◌, ◌<◌, ◌≤◌, true, List, [], ◌∷◌, ◌++◌, length, take, slice_index}
use Rattle.iri_grammar.specs.Characters.{asterisk, percent_sign}
use Rattle.iri_robots.specs.Patterns.{digit_two}
use Rattle.iri_robots.specs.inside.Fits.{IsEscape, Fits}

abbrev pub HasNoStar : List ℕ → Type 0
HasNoStar q = (k : ℕ) → k < length q → slice_index q k ≢ asterisk

-- the pattern ends with the escape of this special character
pub record HasLastEscape (q : List ℕ) (m : ℕ) : Type 0 where
  pub letter : ℕ
  pub before : List ℕ
  pub is_escape : IsEscape letter m
  pub text : q ≡ before ++ percent_sign ∷ digit_two ∷ letter ∷ []

-- the last byte of the text fills the last n of the pattern
pub record EndsWith (q s : List ℕ) (n : ℕ) : Type 0 where
  pub fits : Fits true (asterisk ∷ q) s ↔ Fits true (asterisk ∷ take (length q - n) q) (take (length s - 1) s)
  pub some : 0 < n
  pub in_pattern : n ≤ length q
  pub in_text : 0 < length s
