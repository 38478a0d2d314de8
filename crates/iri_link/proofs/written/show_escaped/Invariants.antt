use Rattle.iri_link.proofs.Common.{◌≡◌, ℕ, List, ◌++◌, length, Utf8, shadow, escaped}
use Rattle.iri_text.proofs.Compose.{HasShown}
use Rattle.iri_link.proofs.written.show_escaped.Given as goal

-- what went into the sink, and what is left
abbrev pub invariant-delimiters : goal.invariant-delimiters
invariant-delimiters g l = record {
  utf8 : shadow (Utf8 l.rest);
  done : List ℕ;
  shown : HasShown g.W.TextSink.puts g.W.TextSink.stops l.initial.sink done l.sink;
  same : escaped l.value ≡ done ++ escaped l.rest;
}

abbrev pub decreases-delimiters : goal.decreases-delimiters
decreases-delimiters g l = length l.rest
