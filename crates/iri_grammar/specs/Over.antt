-- Texts over a class: characters of the class and triplets (RFC 3986 section 2.1).
use Rattle.std.specs.Prelude.{◌≡◌, ℕ, zero, suc, Bool, true, false, cond, ◌&&◌, ◌==◌, List, [], ◌∷◌}
use Rattle.std.specs.Char.{is_ascii_hexdigit}
use Rattle.std.specs.Str.{chars, is_utf8}
use Rattle.iri_grammar.specs.Characters.{percent_sign}

-- what is left of a text, where so many hex digits of a triplet are still to come
unfoldable pub over_from : (ℕ → Bool) → ℕ → List ℕ → Bool
over_from p zero [] = true
over_from p (suc due) [] = false
over_from p zero (c ∷ cs) = cond (c == percent_sign) (over_from p 2 cs) (p c && over_from p 0 cs)
over_from p (suc due) (c ∷ cs) = is_ascii_hexdigit c && over_from p due cs

-- the characters are of the class or stand in triplets, `%` with two hex digits
abbrev pub over : (ℕ → Bool) → List ℕ → Bool
over p cs = over_from p 0 cs

-- the same of bytes: they are UTF-8, and their characters are over the class
abbrev pub text_over : (ℕ → Bool) → List ℕ → Bool
text_over p x = is_utf8 x && over p (chars x)

-- the characters are spelled by units: a character of the class, or a triplet
pub data IsOver (p : ℕ → Bool) : List ℕ → Type 0 where
  done : IsOver p []
  plain : (c : ℕ) (cs : List ℕ) → p c ≡ true → IsOver p cs → IsOver p (c ∷ cs)
  triplet : (a b : ℕ) (cs : List ℕ) → is_ascii_hexdigit a ≡ true → is_ascii_hexdigit b ≡ true → IsOver p cs
      → IsOver p (percent_sign ∷ a ∷ b ∷ cs)
