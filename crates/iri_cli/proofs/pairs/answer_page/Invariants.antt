use Rattle.iri_cli.proofs.Common.{◌≡◌, ◌≤◌, outside_state}
use Rattle.std.specs.Vec.{vec_capacity}
use Rattle.iri_cli.specs.inside.Going.{ahead}
use Rattle.iri_cli.specs.inside.Paged.{paged_rules}
use Rattle.iri_cli.specs.run.Limits.{answer_room}
use Rattle.iri_cli.proofs.PairsLemmas.{StaysOn}
use Rattle.iri_cli.proofs.pairs.answer_page.Given as goal

abbrev pub invariant-links : goal.invariant-links
invariant-links g l =
    let state = outside_state g.I.Source.left g.I.Source.faults g.O.Sink.written g.O.Sink.faults g.O.Sink.room_left in
    StaysOn (paged_rules g.S.Spec.tests l.fn.pairs.text) l.fn.reader l.reader (state l.fn.source l.fn.sink) (state l.source l.sink)
    l.fn.pairs.all_good l.pairs.all_good
    × (l.pairs.text ≡ l.fn.pairs.text) × (answer_room ≤ vec_capacity l.pairs.output)

abbrev pub decreases-links : goal.decreases-links
decreases-links g l = ahead l.reader
