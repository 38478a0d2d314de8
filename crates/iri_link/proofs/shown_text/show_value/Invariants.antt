use Rattle.iri_link.proofs.Common.{◌≡◌, ℕ, List, ◌++◌, length, Utf8, shadow, escaped, unquoted}
use Rattle.iri_text.proofs.Compose.{HasShown}
use Rattle.iri_link.proofs.shown_text.show_value.Given as goal

-- what went into the sink, and what is left
abbrev pub invariant-chunks : goal.invariant-chunks
invariant-chunks g l = record {
  utf8 : shadow (Utf8 l.rest);
  done : List ℕ;
  shown : HasShown g.W.TextSink.puts g.W.TextSink.stops l.initial.sink done l.sink;
  same : escaped (unquoted l.raw) ≡ done ++ escaped (unquoted l.rest);
}

abbrev pub decreases-chunks : goal.decreases-chunks
decreases-chunks g l = length l.rest
