-- What the sources over memory are seen as, and what the sink over memory tells. Lengths, cuts and room are counts of bytes.
use Rattle.std.specs.Prelude.{◌≡◌, ℕ, ◌+◌, ◌-◌, ◌^◌, List, [], ◌∷◌, length, take, min, Option, None, Some, slice_get}
use Rattle.iri_text.specs.Sink.{SinkState}
use Rattle.iri_text.specs.declared.streams.memory_sink.MemorySink.{MemorySink}

-- The bytes that are left, the most bytes that each call gives, the numbers of the calls that fail,
-- the number of the last call, from 1 and at most 2^64 - 1, and how often it failed.
pub record SourceState : Type 0 where
  pub left : List ℕ
  pub cuts : List ℕ
  pub fails : List ℕ
  pub calls : ℕ
  pub faults : ℕ

-- the number of the last call is the next one, and the cuts and the failing calls are the same
pub record IsNextCall (old new : SourceState) : Type 0 where
  pub calls : new.calls ≡ min (old.calls + 1) (2 ^ 64 - 1)
  pub cuts : new.cuts ≡ old.cuts
  pub fails : new.fails ≡ old.fails

-- the bytes that were written to the start of a slice
abbrev pub memory_written : MemorySink → List ℕ
memory_written s = take s.len s.buf.now

-- so much, where no call fails
abbrev pub unless_failing : List ℕ → ℕ → Option ℕ
unless_failing [] room = Some room
unless_failing (number ∷ fails) room = None

-- How many more bytes the sink takes without a fault. That is known where none of its calls is told to fail.
abbrev pub room_left_of : MemorySink → Option ℕ
room_left_of s = unless_failing s.fails.now (length s.buf.now - length (memory_written s))

-- it tells its bytes
abbrev pub state_of : MemorySink → SinkState
state_of s = record { written = Some (memory_written s); faults = s.faults; room_left = room_left_of s }

-- the most bytes that a call gives, by its number from 1: the last cut repeats, and with no cuts there is no bound
abbrev pub cut_of : List ℕ → ℕ → Option ℕ
cut_of cuts number = slice_get cuts (min (number - 1) (length cuts - 1))

-- at most so many
abbrev pub capped : Option ℕ → ℕ → ℕ
capped None n = n
capped (Some cut) n = min n cut
