-- Where the parts of a reader of lines lie in its buffer.
use Rattle.std.specs.Prelude.{◌≡◌, ◌<◌, ◌≤◌, ◌+◌, ◌^◌, ℕ, Bool, true, List, length, take, slice_range, get_or}
use Rattle.std.specs.Vec.{vec_capacity}
use Rattle.iri_text.specs.Lines.{NoLf}
use Rattle.iri_text.specs.LineEnds.{line_feed}
use Rattle.iri_text.specs.declared.streams.reader.LineReader.TheInside.{Inside}

-- the first LF stands there, or there is none and this is the length
pub record IsFirstLf (bytes : List ℕ) (lf : ℕ) : Type 0 where
  pub within : lf ≤ length bytes
  pub no_lf : NoLf (take lf bytes)
  pub found : lf < length bytes → get_or bytes lf 0 ≡ line_feed

-- where the parts lie in the buffer
pub record IsLaidOut (buf : List ℕ) (capacity : ℕ) (ended : Bool) (start end lf line_start line_end taken line_limit input_limit : ℕ) : Type 0 where
  pub start_in : start ≤ end
  pub end_in : end ≤ length buf
  pub line_in : line_start ≤ line_end
  pub line_end_in : line_end ≤ length buf
  -- the buffer can grow until it has a line of the limit and one block after it
  pub room : line_limit + 65536 ≤ capacity
  pub limit : input_limit < 2 ^ 63
  pub count : taken ≤ input_limit + 1
  pub all : end ≤ start + taken
  pub over : input_limit < taken → start < end
  pub none_held : ended ≡ true → end ≤ start
  pub first : IsFirstLf (slice_range buf start end) lf

abbrev pub IsSound : Inside → Type 0
IsSound a = IsLaidOut a.buf.items (vec_capacity a.buf) a.ended a.start a.end a.lf a.line_start a.line_end a.taken a.line_limit a.input_limit
