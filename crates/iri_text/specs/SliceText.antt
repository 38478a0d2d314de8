-- What a slice sink holds, and what a text does to it.
use Rattle.std.specs.Prelude.{◌≡◌, ℕ, List, ◌++◌, length, take, drop}
use Rattle.iri_text.specs.Appending.{Appended, StopsWithin}
use Rattle.iri_text.specs.declared.shown.slice_sink.SliceSink.{SliceSink}

-- the text that was taken
abbrev pub slice_taken : SliceSink → List ℕ
slice_taken s = take s.len s.buf.now

-- the same slice, of which nothing is written behind what was taken
pub record SameBehind (a b : SliceSink) : Type 0 where
  pub same : b.buf.ghost_name ≡ a.buf.ghost_name
  pub room : length b.buf.now ≡ length a.buf.now
  pub behind : drop b.len b.buf.now ≡ drop b.len a.buf.now

-- how many bytes that are, and how many the slice has
abbrev pub slice_len : SliceSink → ℕ
slice_len s = s.len

abbrev pub slice_room : SliceSink → ℕ
slice_room s = length s.buf.now

-- one text more
abbrev pub SlicePuts : SliceSink → List ℕ → SliceSink → Type 0
SlicePuts = Appended slice_taken slice_len SameBehind

-- a prefix of a text that is longer than the rest of the slice
abbrev pub SliceHalts : SliceSink → List ℕ → SliceSink → Type 0
SliceHalts = StopsWithin SlicePuts slice_len slice_room

-- bytes with a text over their start
abbrev pub over_start : List ℕ → List ℕ → List ℕ
over_start t bytes = t ++ drop (length t) bytes

-- what was there, with a prefix of a text over its start
pub record BeginsWithin (t old new : List ℕ) : Type 0 where
  pub prefix : List ℕ
  pub rest : List ℕ
  pub split : prefix ++ rest ≡ t
  pub bytes : new ≡ over_start prefix old
