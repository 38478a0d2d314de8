-- The lines of a robots file, and their records (RFC 9309 section 2.2). A text is the list of its bytes.
use Rattle.std.specs.Prelude.{ℕ, Bool, not, cond, nat_lt, ◌==◌, ◌||◌, List, [], ◌∷◌, Option, Some, None}
use Rattle.std.specs.List.{flat_map}
use Rattle.iri_grammar.specs.Pieces.{onto}
use Rattle.iri_robots.specs.FileLines.{line_of}
use Rattle.iri_robots.specs.Records.{FileRecord, line_records}

-- what a byte is
abbrev pub is_byte : ℕ → Bool
is_byte c = nat_lt c 256

-- no CR and no LF
abbrev pub is_in_line : ℕ → Bool
is_in_line c = not (c == 13 || c == 10)

-- The lines of a file: a CR or an LF ends each. So a CR and an LF together end one, and an empty one after it, which says nothing.
abbrev pub file_lines : List ℕ → List (List ℕ)
file_lines [] = [] ∷ []
file_lines (x ∷ xs) = cond (is_in_line x) (onto x (file_lines xs)) ([] ∷ file_lines xs)

-- the lines of what may follow a line
abbrev pub more_lines : Option (List ℕ) → List (List ℕ)
more_lines None = []
more_lines (Some rest) = file_lines rest

-- the records of a file
abbrev pub file_records : List ℕ → List FileRecord
file_records file = flat_map (λ line. line_records (line_of line)) (file_lines file)
