-- The prefix of a pattern that has no escape, and where it stands in a text.
use Rattle.std.specs.Prelude.{◌≢◌, ◌↔◌, ℕ, ◌<◌, ◌≤◌, Bool, List, ◌∷◌, length, drop, slice_index}
use Rattle.iri_grammar.specs.Characters.{asterisk}
use Rattle.iri_robots.specs.inside.Fits.{Fits, NoEscape, FitsNot}

-- no `*` and no escape begins there in the pattern
pub record IsPlainAt (q : List ℕ) (k : ℕ) : Type 0 where
  pub no_star : slice_index q k ≢ asterisk
  pub no_escape : NoEscape (drop k q)

-- so many bytes of the pattern, from its start on, are plain
pub record HasPlainPrefix (q : List ℕ) (n : ℕ) : Type 0 where
  pub within : n ≤ length q
  pub plain : (k : ℕ) → k < n → IsPlainAt q k

-- the pattern stands somewhere in the text exactly where it does in what is left of it
pub record KeepsFits (anchored : Bool) (q s rest : List ℕ) : Type 0 where
  pub fits : Fits anchored (asterisk ∷ q) s ↔ Fits anchored (asterisk ∷ q) rest
  pub within : length rest ≤ length s

-- the same, anchored or not
abbrev pub Keeps : List ℕ → List ℕ → List ℕ → Type 0
Keeps q s rest = (anchored : Bool) → KeepsFits anchored q s rest

-- the pattern stands nowhere in the text, anchored or not
abbrev pub StandsNot : List ℕ → List ℕ → Type 0
StandsNot q s = (anchored : Bool) → FitsNot anchored (asterisk ∷ q) s
