-- The limits of a run over lines, in bytes.
use Rattle.std.specs.Prelude.{ℕ, ◌+◌, ◌*◌}
use Rattle.iri_text.specs.Limits.{largest_line_limit}

-- how many bytes a line may have before its LF
abbrev pub longest_line : ℕ
longest_line = largest_line_limit

-- how many bytes the input may have
abbrev pub longest_input : ℕ
longest_input = 1073741824

-- the room for what comes after the mark of a good answer: a text with at most three bytes more than a base and a reference, and its LF
abbrev pub answer_room : ℕ
answer_room = 2 * longest_line + 4
