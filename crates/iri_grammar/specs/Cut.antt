-- A text cut at its first delimiter c. A text is the list of its bytes.
use Rattle.std.specs.Prelude.{◌≡◌, ℕ, Bool, true, false, cond, not, ◌&&◌, ◌==◌, List, [], ◌∷◌, Option, Some, None, ◌+◌, ◌<◌, length, take}
use Rattle.std.specs.Prelude.{drop, slice_index}

-- what stands before the first c, or all
abbrev pub before : ℕ → List ℕ → List ℕ
before c [] = []
before c (x ∷ xs) = cond (x == c) [] (x ∷ before c xs)

-- the rest from the first c on, or nothing
abbrev pub from : ℕ → List ℕ → List ℕ
from c [] = []
from c (x ∷ xs) = cond (x == c) (x ∷ xs) (from c xs)

-- what stands after the first c, where there is one
abbrev pub after : ℕ → List ℕ → Option (List ℕ)
after c [] = None
after c (x ∷ xs) = cond (x == c) (Some xs) (after c xs)

-- what stands before the first byte that passes the test, or all
abbrev pub before_any : (ℕ → Bool) → List ℕ → List ℕ
before_any p [] = []
before_any p (x ∷ xs) = cond (p x) [] (x ∷ before_any p xs)

-- the rest from it on, or nothing
abbrev pub from_any : (ℕ → Bool) → List ℕ → List ℕ
from_any p [] = []
from_any p (x ∷ xs) = cond (p x) (x ∷ xs) (from_any p xs)

-- what follows the first byte
abbrev pub tail : List ℕ → List ℕ
tail [] = []
tail (x ∷ xs) = xs

-- there is no c
abbrev pub lacks : ℕ → List ℕ → Bool
lacks c [] = true
lacks c (x ∷ xs) = not (x == c) && lacks c xs

-- the text begins with c
abbrev pub begins : ℕ → List ℕ → Bool
begins c [] = false
begins c (x ∷ xs) = x == c

-- a delimiter and the part after it, where the part stands
abbrev pub delimited : ℕ → Option (List ℕ) → List ℕ
delimited c None = []
delimited c (Some xs) = c ∷ xs

-- the first c stands at k
pub record CutAt (c : ℕ) (bs : List ℕ) (k : ℕ) : Type 0 where
  pub inside : k < length bs
  pub byte : slice_index bs k ≡ c
  pub prefix : take k bs ≡ before c bs
  pub rest : drop k bs ≡ from c bs
  pub tail : Some (drop (k + 1) bs) ≡ after c bs
  pub has : lacks c bs ≡ false

-- no c stands in the text
pub record NoCut (c : ℕ) (bs : List ℕ) : Type 0 where
  pub prefix : bs ≡ before c bs
  pub rest : [] ≡ from c bs
  pub tail : None ≡ after c bs
  pub has : lacks c bs ≡ true
