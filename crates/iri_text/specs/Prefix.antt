-- A text and the prefix of another.
use Rattle.std.specs.Prelude.{◌≡◌, ℕ, List, ◌++◌}

-- the new text is the old one, and after it a prefix of another
pub record IsPrefixAfter (old t new : List ℕ) : Type 0 where
  pub prefix : List ℕ
  pub rest : List ℕ
  pub split : prefix ++ rest ≡ t
  pub appended : new ≡ old ++ prefix
