-- The laws of a buffer's sink.
use Rattle.std.specs.Prelude.{ℕ, List, [], ◌++◌, length, refl}
use Rattle.std.proofs.Common.{sym, ◌∙◌, ap, arith, length-append}
use Rattle.iri_calls.specs.declared.buffer.BufferSink.{BufferSink}
use Rattle.iri_calls.specs.inside.BufferText.{BufferPuts, BufferHalts}
use Rattle.iri_calls.specs.inside.Placed.{over_at}
use Rattle.iri_calls.specs.inside.PlacedLaws.{over_at-none, over_at-both, over_at-long, length-over_at}

pub buffer_none : (a : BufferSink) → BufferPuts a [] a
buffer_none a = record { same = refl; buf = sym (over_at-none a.len a.buf.now); len = omega arith }

pub buffer_both : (a b c : BufferSink) (t u : List ℕ) → BufferPuts a t b → BufferPuts b u c → BufferPuts a (t ++ u) c
buffer_both a b c t u p q = record {
  same = q.same ∙ p.same;
  buf =
      q.buf ∙ ap (λ l. over_at b.len u l) p.buf ∙ over_at-both a.len b.len t u a.buf.now p.len;
  len = omega (arith, p.len, q.len, length-append t u);
}

pub buffer_until : (a b c : BufferSink) (t u : List ℕ) → BufferPuts a t b → BufferHalts b u c → BufferHalts a (t ++ u) c
buffer_until a b c t u p h = record {
  same = h.same ∙ p.same;
  buf =
      h.buf ∙ ap (λ l. over_at b.len u l) p.buf ∙ over_at-both a.len b.len t u a.buf.now p.len;
  room = omega (arith, h.room, ap length p.buf, length-over_at a.len t a.buf.now);
  long = omega (arith, h.long, p.len, length-append t u);
}

pub buffer_within : (a b : BufferSink) (t u : List ℕ) → BufferHalts a t b → BufferHalts a (t ++ u) b
buffer_within a b t u h = record {
  same = h.same;
  buf = h.buf ∙ sym (over_at-long a.len t u a.buf.now (omega (arith, h.long, h.room)));
  room = h.room;
  long = omega (arith, h.long, length-append t u);
}
