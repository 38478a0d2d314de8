-- What a buffer's sink holds, and what a text does to it.
use Rattle.std.specs.Prelude.{◌≡◌, ◌<◌, ◌≤◌, ◌+◌, ◌^◌, ℕ, List, length}
use Rattle.iri_calls.specs.inside.Placed.{over_at}
use Rattle.iri_calls.specs.declared.buffer.BufferSink.{BufferSink}

-- the same buffer with one text more, as far as there is room, and the count of all
pub record BufferPuts (a : BufferSink) (t : List ℕ) (b : BufferSink) : Type 0 where
  pub same : b.buf.ghost_name ≡ a.buf.ghost_name
  pub buf : b.buf.now ≡ over_at a.len t a.buf.now
  pub len : b.len ≡ a.len + length t

-- the same with a text whose count passes 2^64 - 1
pub record BufferHalts (a : BufferSink) (t : List ℕ) (b : BufferSink) : Type 0 where
  pub same : b.buf.ghost_name ≡ a.buf.ghost_name
  pub buf : b.buf.now ≡ over_at a.len t a.buf.now
  pub room : length a.buf.now < 2 ^ 64
  pub long : 2 ^ 64 ≤ a.len + length t
