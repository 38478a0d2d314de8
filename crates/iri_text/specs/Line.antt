-- What a reader of lines is seen as.
use Rattle.std.specs.Prelude.{ℕ, Bool, List}

-- what a reader of lines holds, and what its calls told
pub record LineState : Type 0 where
  -- the bytes that were taken and not given out
  pub held : List ℕ
  -- the count of all bytes that were taken
  pub taken : ℕ
  -- the line, where the last call gave one
  pub line : List ℕ
  -- a line was given that had no LF
  pub ended : Bool
  -- a call answered that there is no line, or a fault
  pub done : Bool
  -- the most bytes of a line before its LF, and of the whole input
  pub line_limit : ℕ
  pub input_limit : ℕ
