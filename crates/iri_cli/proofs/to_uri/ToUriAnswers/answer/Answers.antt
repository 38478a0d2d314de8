use Rattle.iri_cli.proofs.Common.{base_text, refl, sink_state}
use Rattle.iri_cli.proofs.StatelessLemmas.{answers_text}
use Rattle.iri_cli.proofs.to_uri.ToUriAnswers.answer.Goals as goal

pub returns : goal.returns
returns g c = λ at is.
    let state = sink_state g.O.Sink.written g.O.Sink.faults g.O.Sink.room_left in
    answers_text _ _ _ g.S.Spec.tests c.args.self.now.mode (base_text c.args.resolver.now) at is c.args.line.now (state c.args.sink.now)
    (state c.put_uri_answer.new.sink) c.put_uri_answer.result _ refl c.put_uri_answer.ensures.puts c.put_uri_answer.ensures.room
