use Rattle.iri_link.proofs.Common.{◌≡◌, ℕ, List, ◌++◌, length, Utf8, shadow, str_to_ascii_lowercase}
use Rattle.std.specs.Str.{IsAscii}
use Rattle.iri_text.proofs.Compose.{HasShown}
use Rattle.iri_link.proofs.shown_text.show_lowered.Given as goal

-- what went into the sink, and what is left
abbrev pub invariant-chunks : goal.invariant-chunks
invariant-chunks g l = record {
  utf8 : shadow (Utf8 l.rest);
  ascii : IsAscii l.rest;
  done : List ℕ;
  shown : HasShown g.W.TextSink.puts g.W.TextSink.stops l.initial.sink done l.sink;
  same : str_to_ascii_lowercase l.text ≡ done ++ str_to_ascii_lowercase l.rest;
}

abbrev pub decreases-chunks : goal.decreases-chunks
decreases-chunks g l = length l.rest
