-- What the second byte of a text tells of a pattern.
use Rattle.std.specs.Prelude.{◌≡◌, ℕ, List, [], ◌∷◌}
use Rattle.iri_grammar.specs.Characters.{asterisk}
use Rattle.iri_robots.specs.Patterns.{Matches}

-- the second byte, or `*` where there is none
abbrev pub second_of : List ℕ → ℕ
second_of [] = asterisk
second_of (x ∷ []) = asterisk
second_of (x ∷ y ∷ s) = y

-- the pattern matches no text with this second byte
abbrev pub IsApart : List ℕ → ℕ → Type 0
IsApart p second = (s : List ℕ) → second ≡ second_of s → Matches p s → ⊥
