-- The values of variables (RFC 6570 section 2.3), with the texts of what is shown, as lists of bytes.
use Rattle.std.specs.Prelude.{ℕ, Bool, true, false, List, ◌∷◌, Option, None, Some}

-- none, a string, a list, or an associative array: a list of pairs of a key and a value
pub data ShownValue : Type 0 where
  undefined : ShownValue
  string : (text : List ℕ) → ShownValue
  list : (items : List (List ℕ)) → ShownValue
  pairs : (entries : List (List ℕ × List ℕ)) → ShownValue

-- a list or an associative array that isn't empty
abbrev pub has_members : ShownValue → Bool
has_members (list (x ∷ xs)) = true
has_members (pairs (x ∷ xs)) = true
has_members value = false

-- nothing is undefined
abbrev pub optional : {T : Type 0} → (T → ShownValue) → Option T → ShownValue
optional value None = undefined
optional value (Some x) = value x
