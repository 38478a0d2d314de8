use Rattle.iri_cli.proofs.Common.{◌∙◌, None, Some, ap, arith, begun, outside_state, refl, room-so, subst, sym, true}
use Rattle.iri_cli.specs.inside.Going.{Waits}
use Rattle.iri_cli.specs.inside.Paged.{paged_rules}
use Rattle.iri_cli.specs.pairs.Rules.{no_page}
use Rattle.iri_cli.proofs.Answered.{fails_first}
use Rattle.iri_cli.proofs.GoingLemmas.{goes_next}
use Rattle.iri_cli.proofs.PairsLemmas.{ends_run, first_goes, from_first}
use Rattle.iri_cli.proofs.pairs.answer_pages.Goals as goal

pub returns-in-Err : goal.returns-in-Err
returns-in-Err g c =
    fails_first (begun (paged_rules g.S.Spec.tests c.args.pairs.now.text) no_page) _ _ _ _ _ _ c.flush.ensures.kept c.in-Err.ensures.cause
    (omega arith) c.flush.ensures.later (room-so (λ h. absurd (cc h)) c.in-Err.ensures.room)

pub next_line-requires : goal.next_line-requires
next_line-requires g c = c.requires.buffers.new.going

pub returns-in-Some : goal.returns-in-Some
returns-in-Some g c =
    let s = g.S.Spec.tests in
    let m = c.args.pairs.now.text in
    let k = g.met.S.Spec.lawful in
    let state = outside_state g.I.Source.left g.I.Source.faults g.O.Sink.written g.O.Sink.faults g.O.Sink.room_left in
    let around = state c.args.source.now c.args.sink.now in
    let f = c.in_default.ensures {u = tt} in
    let goes = first_goes s m k c.args.reader.now around _ c.requires.buffers.new f.kept f.same (room-so (λ _. tt) f.room) in
    ends_run s m _ around _ _ c.requires.buffers.new
    (goes_next (from_first s m k c.args.reader.now around) true _ _ _ _ _ _ _ (Some c.in-Some.end) goes c.in-Some.ensures)

pub pages-init : goal.pages-init
pages-init g c =
    let s = g.S.Spec.tests in
    let m = c.args.pairs.now.text in
    let k = g.met.S.Spec.lawful in
    let state = outside_state g.I.Source.left g.I.Source.faults g.O.Sink.written g.O.Sink.faults g.O.Sink.room_left in
    let around = state c.args.source.now c.args.sink.now in
    let b = from_first s m k c.args.reader.now around in
    let f = c.in_default.ensures {u = tt} in
    let goes = first_goes s m k c.args.reader.now around _ c.requires.buffers.new f.kept f.same (room-so (λ _. tt) f.room) in (
      (
        refl,
        subst (λ good. Waits b c.next_line.new.reader (state c.next_line.new.source c.flush.new.self) good) (sym c.requires.good) (goes_next b true _ _ _ _ _ _ _ None goes c.in-None.ensures).0,
      ),
      omega (arith, c.requires.buffers.base_room),
      omega (arith, c.requires.buffers.output_room),
    )

pub answer_from-requires-clause-waits : goal.answer_from-requires-clause-waits
answer_from-requires-clause-waits g c = (_, c.pages.invariant.0)

pub pages-preserved : goal.pages-preserved
pages-preserved g c =
    let i = c.pages.invariant in
    let next = c.in-None-answer_from.ensures.goes _ i.0 in (
      (i.0.0 ∙ ap (paged_rules g.S.Spec.tests) (sym c.answer_from.ensures.by), next.0),
      c.answer_from.ensures.held,
      c.answer_from.ensures.output,
    )

pub pages-smaller : goal.pages-smaller
pages-smaller g c = (c.in-None-answer_from.ensures.goes _ c.pages.invariant.0).1

pub returns-in-Some-answer_from : goal.returns-in-Some-answer_from
returns-in-Some-answer_from g c =
    ends_run g.S.Spec.tests c.args.pairs.now.text _ _ _ _ c.requires.buffers.new (c.in-Some-answer_from.ensures.goes _ c.pages.invariant.0)
