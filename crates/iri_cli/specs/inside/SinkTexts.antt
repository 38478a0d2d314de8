-- What a sink of texts does to the sink of bytes below it, and its laws.
use Rattle.std.specs.Prelude.{◌≡◌, ℕ, List, [], Ok, Err, refl}
use Rattle.std.proofs.Common.{◌∙◌, arith}
use Rattle.iri_text.proofs.Puts.{Appends-none, puts-then, puts-exit, room-same}
use Rattle.iri_text.specs.Shown.{AreSinkLaws}
use Rattle.iri_text.specs.Sink.{PutsAll, SinkState}
use Rattle.iri_text.specs.declared.Failed.{Failed}
use Rattle.iri_cli.specs.declared.run.sink_text.SinkText.{SinkText}

-- nothing was put
pub puts_nothing : (k : SinkState) → PutsAll k k (Ok tt) []
puts_nothing k = record {
  whole = Appends-none k.written;
  same = refl;
  later = omega arith;
  cause = tt;
  prefix = tt;
  room = room-same k.room_left [] (λ _. refl);
}

module _ {O : Type 0} (state : O → SinkState) where
  -- the text was put
  pub record TextPuts (a : SinkText O) (t : List ℕ) (b : SinkText O) : Type 0 where
    pub same : b.to.ghost_name ≡ a.to.ghost_name
    pub put : PutsAll (state a.to.now) (state b.to.now) (Ok tt) t

  -- the sink of bytes failed within the text
  pub record TextHalts (a : SinkText O) (t : List ℕ) (b : SinkText O) : Type 0 where
    pub same : b.to.ghost_name ≡ a.to.ghost_name
    pub failed : Failed
    pub put : PutsAll (state a.to.now) (state b.to.now) (Err failed) t

  pub text_rules : AreSinkLaws TextPuts TextHalts
  text_rules = record {
    none = λ a. record { same = refl; put = puts_nothing (state a.to.now) };
    both = λ a b c t u p q. record { same = q.same ∙ p.same; put = puts-then p.put q.put };
    until = λ a b c t u p q. record { same = q.same ∙ p.same; failed = q.failed; put = puts-then p.put q.put };
    within = λ a b t u q. record { same = q.same; failed = q.failed; put = puts-exit {r = Err q.failed} u refl q.put };
  }
