-- What the source and the sink over std's readers and writers are seen as, and what they do to them.
use Rattle.std.specs.Prelude.{◌≡◌, ℕ, Bool, List, ◌++◌, Option, None}
use Rattle.std.specs.Io.KnownBytes.{Appends}
use Rattle.iri_text.specs.Sink.{SinkState}

-- the reader, and how often it failed, at most 2^64 - 1
pub record ReadState (R : Type 0) : Type 0 where
  pub inner : R
  pub faults : ℕ

-- The writer, how often it failed, at most 2^64 - 1, and whether it may hold bytes back: at first, and where a piece that isn't empty
-- was put since the last flush that succeeded, also one at which the writer failed.
pub record Writing (W : Type 0) : Type 0 where
  pub inner : W
  pub faults : ℕ
  pub pending : Bool

-- a sink that tells how often it failed, and no more
abbrev pub untold : ℕ → SinkState
untold faults = record { written = None; faults = faults; room_left = None }

-- a writer that tells its bytes has a prefix of these after them
pub record WritesPrefix (old new : Option (List ℕ)) (bytes : List ℕ) : Type 0 where
  pub prefix : List ℕ
  pub rest : List ℕ
  pub split : prefix ++ rest ≡ bytes
  pub appended : Appends old new prefix
