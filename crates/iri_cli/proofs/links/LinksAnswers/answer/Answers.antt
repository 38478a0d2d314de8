use Rattle.iri_cli.proofs.Common.{false, refl, true, sink_state, base_text}
use Rattle.iri_link.specs.LaxReadings.{lax_links_in}
use Rattle.iri_cli.specs.links.Answers.{field_refusal, links_answer, links_line}
use Rattle.iri_cli.specs.links.Rules.{takes_memory}
use Rattle.iri_cli.proofs.CanonLemmas.{said_line, said_room}
use Rattle.iri_cli.proofs.LinksLemmas.{field_answered, refusal_answered}
use Rattle.iri_cli.proofs.StatelessLemmas.{answers_text}
use Rattle.iri_cli.proofs.links.LinksAnswers.answer.Goals as goal

pub returns-in-Ok : goal.returns-in-Ok
returns-in-Ok g c = λ at is.
    let state = sink_state g.O.Sink.written g.O.Sink.faults g.O.Sink.room_left in
    let s = g.S.Spec.tests in
    let mode = c.args.self.now.mode in
    let base = base_text c.args.resolver.now in
    let line = c.args.line.now in
    let text = links_line s mode base (lax_links_in s c.in-Ok.field.now) in
    answers_text links_answer false takes_memory s mode base at is line (state c.args.sink.now) (state c.put_links.new.sink) c.say_good.result text
    (field_answered s mode base line c.in-Ok.field.now c.in-Ok.ensures)
    (said_line true c.put_links.result text text c.say_good.result c.say_good.ensures refl refl c.put_links.ensures)
    (said_room true c.put_links.result text text c.say_good.result c.say_good.ensures refl c.put_links.ensures)

pub returns-in-Err : goal.returns-in-Err
returns-in-Err g c = λ at is.
    let state = sink_state g.O.Sink.written g.O.Sink.faults g.O.Sink.room_left in
    let s = g.S.Spec.tests in
    let mode = c.args.self.now.mode in
    let base = base_text c.args.resolver.now in
    let line = c.args.line.now in
    let text = field_refusal (record { kind = c.in-Err.kind; place = c.in-Err.place }) in
    answers_text links_answer false takes_memory s mode base at is line (state c.args.sink.now) (state c.put_fault.new.sink) c.say_good-in-Err.result text
    (refusal_answered s mode base line _ c.in-Err.ensures)
    (said_line false c.put_fault.result text text c.say_good-in-Err.result c.say_good-in-Err.ensures refl refl c.put_fault.ensures)
    (said_room false c.put_fault.result text text c.say_good-in-Err.result c.say_good-in-Err.ensures refl c.put_fault.ensures)
