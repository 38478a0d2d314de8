-- Matching from the left, and how it moves on: what the search for a filling keeps.
use Rattle.std.specs.Prelude.{◌≡◌, ◌≢◌, ℕ, ◌<◌, ◌≤◌, Bool, true, List, [], ◌∷◌, ◌++◌, length, drop}
use Rattle.iri_grammar.specs.Characters.{asterisk, percent_sign}
use Rattle.iri_robots.specs.Patterns.{dollar_sign, digit_two, digit_four, capital_a}

-- the letter of an escape `%2A` or `%24`, and the special character that it stands for
pub data IsEscape : ℕ → ℕ → Type 0 where
  star_escape : IsEscape capital_a asterisk
  dollar_escape : IsEscape digit_four dollar_sign

-- the text, or where the pattern isn't anchored a prefix of it, is a filling of the pattern
pub data Fits (anchored : Bool) : List ℕ → List ℕ → Type 0 where
  ended : (s : List ℕ) → (anchored ≡ true → s ≡ []) → Fits anchored [] s
  star : (t q s : List ℕ) → Fits anchored q s → Fits anchored (asterisk ∷ q) (t ++ s)
  escaped : (l m : ℕ) (q s : List ℕ) → IsEscape l m → Fits anchored q s → Fits anchored (percent_sign ∷ digit_two ∷ l ∷ q) (m ∷ s)
  same : (c : ℕ) (q s : List ℕ) → c ≢ asterisk → Fits anchored q s → Fits anchored (c ∷ q) (c ∷ s)

-- r is what is left of s, somewhere
pub data IsSuffix : List ℕ → List ℕ → Type 0 where
  whole : (s : List ℕ) → IsSuffix s s
  later : (x : ℕ) (r s : List ℕ) → IsSuffix r s → IsSuffix r (x ∷ s)

-- r begins later than s
pub data IsAfter : List ℕ → List ℕ → Type 0 where
  after : (x : ℕ) (r s : List ℕ) → IsSuffix r s → IsAfter r (x ∷ s)

-- the pattern fits later than at s
pub record FitsAfter (anchored : Bool) (q s : List ℕ) : Type 0 where
  pub rest : List ℕ
  pub is_after : IsAfter rest s
  pub fits : Fits anchored q rest

-- A pattern q at s comes to the pattern q' at s': the one fits exactly where the other does, and where q fits later than
-- at s, q' fits later than at s'
pub record MovesOn (anchored : Bool) (q s q' s' : List ℕ) : Type 0 where
  pub onward : Fits anchored q s → Fits anchored q' s'
  pub back : Fits anchored q' s' → Fits anchored q s
  pub later : FitsAfter anchored q s → FitsAfter anchored q' s'

-- A pattern q at s comes to a `*` with q' after it, at s': wherever from s on q fits, what follows the `*` fits from s' on
pub record StopsAtStar (anchored : Bool) (q s q' s' : List ℕ) : Type 0 where
  pub onward : (r : List ℕ) → IsSuffix r s → Fits anchored q r → Fits anchored (asterisk ∷ q') s'
  pub back : Fits anchored (asterisk ∷ q') s' → Fits anchored q s
  pub shorter : length q' < length q
  pub within : length s' ≤ length s

-- the pattern begins with the escape of this special character
pub record EscapeOf (q : List ℕ) (m : ℕ) : Type 0 where
  pub letter : ℕ
  pub rest : List ℕ
  pub is_escape : IsEscape letter m
  pub text : q ≡ percent_sign ∷ digit_two ∷ letter ∷ rest

-- the pattern begins with no escape
pub record NoEscape (q : List ℕ) : Type 0 where
  pub none : (l m : ℕ) (rest : List ℕ) → IsEscape l m → q ≡ percent_sign ∷ digit_two ∷ l ∷ rest → ⊥

-- the pattern doesn't fit
pub record FitsNot (anchored : Bool) (q s : List ℕ) : Type 0 where
  pub none : Fits anchored q s → ⊥

-- nothing fits, anchored or not
abbrev pub Sticks : List ℕ → List ℕ → Type 0
Sticks q s = (anchored : Bool) → FitsNot anchored q s

-- so much of the pattern is filled by so much of the text
pub record Takes (q s : List ℕ) (i j : ℕ) : Type 0 where
  pub moves : (anchored : Bool) → MovesOn anchored q s (drop i q) (drop j s)
  pub some : 0 < i
  pub in_pattern : i ≤ length q
  pub in_text : j ≤ length s
