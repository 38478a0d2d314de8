use Rattle.iri_link.proofs.Common.{◌≡◌, ℕ, List, ◌++◌, drop, Utf8, shadow, links_of, written}
use Rattle.iri_text.proofs.Compose.{HasShown}
use Rattle.iri_link.proofs.WrittenTexts.{left_text}
use Rattle.iri_link.proofs.written.show_links.Given as goal

-- what went into the sink, and what is left
abbrev pub invariant-loop-link : goal.invariant-loop-link
invariant-loop-link g l = record {
  utf8 : shadow (Utf8 l.between);
  done : List ℕ;
  shown : HasShown g.W.TextSink.puts g.W.TextSink.stops l.fn.sink done l.sink;
  same : written (links_of l.links) ≡ done ++ left_text l.between (links_of (drop l.link-index l.links));
}
