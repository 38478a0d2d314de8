-- How a text is read as an escaped one, and what of a pattern stands in it as it is.
use Rattle.std.specs.Prelude.{◌≡◌, ◌≢◌, ◌⊎◌, ℕ, zero, suc, ◌<◌, ◌≤◌, Bool, true, false, cond, ◌==◌, ◌&&◌, List, [], ◌∷◌, ◌++◌, length, take, slice_index}
use Rattle.iri_grammar.specs.Characters.{asterisk, percent_sign}
use Rattle.iri_robots.specs.Patterns.{dollar_sign, digit_two, digit_four, capital_a}
use Rattle.iri_robots.specs.inside.Fits.{IsEscape, NoEscape, FitsNot}
use Rattle.iri_robots.specs.declared.escaped.Escaped.{Escaped}

-- what follows the first byte of what a byte is read as
abbrev pub tail_of : Bool → ℕ → List ℕ
tail_of dollars c =
    cond (c == asterisk) (digit_two ∷ capital_a ∷ []) (cond (c == dollar_sign && dollars) (digit_two ∷ digit_four ∷ []) [])

-- its first byte
abbrev pub head_of : Bool → ℕ → ℕ
head_of dollars c = cond (c == asterisk) percent_sign (cond (c == dollar_sign && dollars) percent_sign c)

-- what a text is read as
unfoldable pub escaped_text : Bool → List ℕ → List ℕ
escaped_text dollars [] = []
escaped_text dollars (c ∷ s) = head_of dollars c ∷ (tail_of dollars c ++ escaped_text dollars s)

-- what of an escape is left, and the text after it
pub record Left : Type 0 where
  pub begun : List ℕ
  pub rest : List ℕ

-- what is left is read so
unfoldable pub left_text : Bool → Left → List ℕ
left_text dollars l = l.begun ++ escaped_text dollars l.rest

-- what is left after a byte
unfoldable pub next : Bool → Left → Left
next dollars l = elim l.begun [ [] ↦ elim l.rest [ [] ↦ l | c ∷ s ↦ record { begun = tail_of dollars c; rest = s } ] | x ∷ b ↦ record { begun = b; rest = l.rest } ]

-- what is left after so many bytes
unfoldable pub after_bytes : Bool → ℕ → Left → Left
after_bytes dollars zero l = l
after_bytes dollars (suc n) l = after_bytes dollars n (next dollars l)

abbrev pub left_of : Escaped → Left
left_of l = record { begun = l.begun.now; rest = l.rest.now }

-- at none of the first n places the pattern fits
abbrev pub FitsNotBefore : Bool → List ℕ → Left → ℕ → Type 0
FitsNotBefore dollars q l n = (j : ℕ) (r : List ℕ) → j < n → after_bytes dollars j l ≡ record { begun = []; rest = r }
    → (anchored : Bool) → FitsNot anchored q r

-- what is left begins with the first n bytes of a needle, and what is left after them is this
pub record Stands (dollars : Bool) (needle : List ℕ) (l : Left) (n : ℕ) (after : Left) : Type 0 where
  pub within : n ≤ length needle
  pub text : left_text dollars l ≡ take n needle ++ left_text dollars after
  pub moved : after_bytes dollars n l ≡ after

-- the next byte of the needle doesn't stand there
abbrev pub StopsAt : Bool → List ℕ → ℕ → Left → Type 0
StopsAt dollars needle n after = (t : List ℕ) → left_text dollars after ≡ slice_index needle n ∷ t → ⊥

-- all n bytes of the needle stand there, which begins and ends at a byte of the text
abbrev pub IsWhole : ℕ → Left → ℕ → Left → Type 0
IsWhole len l n after = (n ≡ len) × (l.begun ≡ []) × (after.begun ≡ [])

abbrev pub NotWhole : ℕ → Left → ℕ → Left → Type 0
NotWhole len l n after = IsWhole len l n after → ⊥

-- the needle doesn't stand there as a whole, or begins or ends within what a byte is read as, or the rest of the pattern
-- doesn't fit after it
abbrev pub StandsNotHere : Bool → List ℕ → List ℕ → Left → ℕ → Left → Type 0
StandsNotHere dollars needle rest l n after =
    (n < length needle) × StopsAt dollars needle n after
    ⊎ (n ≡ length needle) × ((l.begun ≢ []) ⊎ ((after.begun ≢ []) ⊎ FitsNot false rest after.rest))

-- so many bytes of the pattern, from its start on, are no `*` and stand in an escaped text as they are
pub data IsNeedle (dollars : Bool) : List ℕ → ℕ → Type 0 where
  ended : (q : List ℕ) → IsNeedle dollars q 0
  same : (c : ℕ) (q : List ℕ) (n : ℕ) → c ≢ asterisk → NoEscape (c ∷ q) → (dollars ≡ true → c ≢ dollar_sign) → IsNeedle dollars q n
      → IsNeedle dollars (c ∷ q) (suc n)
  escape : (l m : ℕ) (q : List ℕ) (n : ℕ) → IsEscape l m → tail_of dollars m ≢ [] → IsNeedle dollars q n
      → IsNeedle dollars (percent_sign ∷ digit_two ∷ l ∷ q) (suc (suc (suc n)))
