use Rattle.iri_link.proofs.Common.{◌≡◌, ℕ, List, ◌++◌, length, map, Utf8, shadow, base_text, resolved_in, written}
use Rattle.iri_text.proofs.Compose.{HasShown}
use Rattle.iri_link.specs.LaxReadings.{lax_links_in}
use Rattle.iri_link.specs.inside.Pieces.{left_at}
use Rattle.iri_link.proofs.ShownLemmas.{written_left}
use Rattle.iri_link.proofs.shown_text.show_text.Given as goal

-- what went into the sink, and what is left
abbrev pub invariant-pieces : goal.invariant-pieces
invariant-pieces g l =
    let s = g.S.Spec.tests in
    let base = base_text l.resolver in
    record {
      utf8 : shadow (Utf8 l.rest);
      done : List ℕ;
      shown : HasShown g.W.TextSink.puts g.W.TextSink.stops l.initial.sink done l.sink;
      same : written (map (resolved_in s l.mode base) (lax_links_in s l.text)) ≡ done ++ written_left s l.mode base l.place (left_at l.inside l.rest);
    }

abbrev pub decreases-pieces : goal.decreases-pieces
decreases-pieces g l = length l.rest
