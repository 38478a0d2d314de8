-- The command `robots`: what a line says, and the records of a robots file after lines (RFC 9309 section 2.2).
use Rattle.std.specs.Prelude.{ℕ, ◌==◌, List, [], ◌∷◌, if◌then◌else◌}
use Rattle.std.specs.List.{flat_map}
use Rattle.iri_robots.specs.FileLines as file
use Rattle.iri_robots.specs.Records.{FileRecord, line_records}

-- what a line says: it feeds a line of the robots file, it asks of a reference, or nothing of these
pub data RobotsLine : Type 0 where
  feeds : (line : List ℕ) → RobotsLine
  asks : (reference : List ℕ) → RobotsLine
  bad : RobotsLine

-- by its letter: `r` or `u`
abbrev pub said : ℕ → List ℕ → RobotsLine
said letter rest = if letter == 114 then feeds rest else (if letter == 117 then asks rest else bad)

-- a line: a letter, one space, and the rest, which may be empty
unfoldable pub line_of : List ℕ → RobotsLine
line_of (letter ∷ delimiter ∷ rest) = if delimiter == 32 then said letter rest else bad
line_of line = bad

-- the record of the robots file that a line feeds, where it has one
abbrev pub fed : RobotsLine → List FileRecord
fed (feeds line) = line_records (file.line_of line)
fed (asks reference) = []
fed bad = []

-- the records after the lines of an input so far
unfoldable pub records_after : List (List ℕ) → List FileRecord
records_after lines = flat_map (λ line. fed (line_of line)) lines
