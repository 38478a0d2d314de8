-- A text with a part of it replaced.
use Rattle.std.specs.Prelude.{ℕ, List, ◌++◌, take, drop}

-- the text with this in the place of what stands from the one position to the other
abbrev pub spliced : List ℕ → ℕ → ℕ → List ℕ → List ℕ
spliced t start end new = take start t ++ (new ++ drop end t)
