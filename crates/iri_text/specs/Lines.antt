-- The lines of a text. An LF is the byte 10, a CR the byte 13.
use Rattle.std.specs.Prelude.{◌≢◌, ◌==◌, ℕ, List, [], ◌∷◌, ◌++◌, if◌then◌else◌}
use Rattle.iri_text.specs.LineEnds.{carriage_return, line_feed}

-- no byte is an LF
abbrev pub NoLf : List ℕ → Type 0
NoLf [] = Unit {0}
NoLf (b ∷ bs) = (b ≢ line_feed) × NoLf bs

-- the bytes without one CR at their end
abbrev pub no_cr : List ℕ → List ℕ
no_cr [] = []
no_cr (b ∷ []) = if b == carriage_return then [] else b ∷ []
no_cr (b ∷ c ∷ bs) = b ∷ no_cr (c ∷ bs)

-- what follows the last LF is a line where it has at least one byte
abbrev pub last_line : List ℕ → List (List ℕ)
last_line [] = []
last_line (b ∷ bs) = no_cr (b ∷ bs) ∷ []

-- the lines of these bytes, where the first of them begins with the bytes of `prefix`
abbrev pub lines_from : List ℕ → List ℕ → List (List ℕ)
lines_from prefix [] = last_line prefix
lines_from prefix (b ∷ bs) = if b == line_feed then no_cr prefix ∷ lines_from [] bs else lines_from (prefix ++ b ∷ []) bs

-- The lines of a text: an LF ends a line, and what follows the last LF is a line where it has at least one byte.
-- One CR directly before the LF, or before the end of the last line, isn't part of the line.
abbrev pub lines : List ℕ → List (List ℕ)
lines bytes = lines_from [] bytes

-- The lines of these bytes that an LF ends, without it, each cut in this way, where the first of them begins with the bytes of `prefix`.
abbrev pub ended_from : (List ℕ → List ℕ) → List ℕ → List ℕ → List (List ℕ)
ended_from cut prefix [] = []
ended_from cut prefix (b ∷ bs) = if b == line_feed then cut prefix ∷ ended_from cut [] bs else ended_from cut (prefix ++ b ∷ []) bs

-- the lines of a text that an LF ends, as they stand
abbrev pub ended : List ℕ → List (List ℕ)
ended bytes = ended_from (λ line. line) [] bytes

-- the lines of a text that an LF ends, without one CR at the end of each
abbrev pub ended_lines : List ℕ → List (List ℕ)
ended_lines bytes = ended_from no_cr [] bytes
