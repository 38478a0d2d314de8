use Rattle.iri_template.proofs.Common.{length, IsUtf8, chars, kept_rest, IsHeld}
use Rattle.iri_template.proofs.Reading.{HasReadUpTo}
use Rattle.iri_template.proofs.encoded_value.put_kept.Given as goal

-- the pieces before the rest were read
abbrev pub invariant-pieces : goal.invariant-pieces
invariant-pieces g l = record {
  utf8 : IsUtf8 l.rest;
  held : IsHeld l.state;
  far : HasReadUpTo (kept_rest g.S.Spec.tests) g.W.TextSink.puts g.W.TextSink.halts g.W.TextSink.stops
      l.fn.state l.fn.sink (chars l.text) l.state l.sink (chars l.rest);
}

abbrev pub decreases-pieces : goal.decreases-pieces
decreases-pieces g l = length l.rest
