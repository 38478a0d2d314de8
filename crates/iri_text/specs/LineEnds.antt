-- The characters that end a line, by their codes.
use Rattle.std.specs.Prelude.{ℕ}

abbrev pub line_feed : ℕ
line_feed = 10

abbrev pub carriage_return : ℕ
carriage_return = 13
