use Rattle.iri_cli.proofs.Common.{◌≤◌, longest_line, outside_state}
use Rattle.std.specs.Vec.{vec_capacity}
use Rattle.iri_cli.specs.inside.Going.{ahead}
use Rattle.iri_cli.specs.inside.Paged.{WaitsBy, paged_rules}
use Rattle.iri_cli.specs.run.Limits.{answer_room}
use Rattle.iri_cli.proofs.PairsLemmas.{from_first}
use Rattle.iri_cli.proofs.pairs.answer_pages.Given as goal

abbrev pub invariant-pages : goal.invariant-pages
invariant-pages g l =
    let s = g.S.Spec.tests in
    let state = outside_state g.I.Source.left g.I.Source.faults g.O.Sink.written g.O.Sink.faults g.O.Sink.room_left in
    WaitsBy (paged_rules s l.pairs.text) (from_first s l.fn.pairs.text g.met.S.Spec.lawful l.fn.reader (state l.fn.source l.fn.sink)) l.reader
    (state l.source l.sink) l.pairs.all_good
    × (longest_line ≤ vec_capacity l.held) × (answer_room ≤ vec_capacity l.pairs.output)

abbrev pub decreases-pages : goal.decreases-pages
decreases-pages g l = ahead l.reader
