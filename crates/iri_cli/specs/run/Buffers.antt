-- The memory that a run over lines takes first.
use Rattle.std.specs.Prelude.{◌≡◌, ℕ, false, []}
use Rattle.iri_text.specs.Line.{LineState}
use Rattle.iri_cli.specs.run.Limits.{longest_line, longest_input, answer_room}

-- a reader with these limits that took nothing yet
pub record IsNew (longest_line longest_input : ℕ) (reader : LineState) : Type 0 where
  pub held : reader.held ≡ []
  pub taken : reader.taken ≡ 0
  pub ended : reader.ended ≡ false
  pub going : reader.done ≡ false
  pub line_limit : reader.line_limit ≡ longest_line
  pub input_limit : reader.input_limit ≡ longest_input

-- A reader that took nothing yet, with the limits of every command; and buffers of these capacities: for the base line, and for the longest
-- answer's text and its LF.
pub record AreBuffers (reader : LineState) (base output : ℕ) : Type 0 where
  pub new : IsNew longest_line longest_input reader
  pub base_room : base ≡ longest_line
  pub output_room : output ≡ answer_room
