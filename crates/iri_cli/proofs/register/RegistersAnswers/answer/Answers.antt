use Rattle.iri_cli.proofs.Common.{◌+◌, ◌∙◌, ap, refl, subst, sym, sink_state, base_text, AnswersLine, command_of, line_of}
use Rattle.iri_cli.specs.register.Answers.{answer_to}
use Rattle.iri_cli.specs.register.Memory.{takes_memory}
use Rattle.iri_cli.specs.register.Rules.{register_rules}
use Rattle.iri_cli.specs.inside.RegisterAt.{IsRegisterAt}
use Rattle.iri_cli.specs.inside.Replies.{obeyed_by, reply_text}
use Rattle.iri_cli.proofs.MemoryLemmas.{answers_memory}
use Rattle.iri_cli.proofs.RegisterLemmas.{answers_line}
use Rattle.iri_cli.proofs.register.RegistersAnswers.answer.Goals as goal

pub returns-in-Err : goal.returns-in-Err
returns-in-Err g c = λ at is.
    let s = g.S.Spec.tests in
    let kept = c.args.self.now.register in
    let state = sink_state g.O.Sink.written g.O.Sink.faults g.O.Sink.room_left in
    answers_memory (register_rules s kept.mode) at c.args.line.now (state c.args.sink.now) _ is.rules
    (sym (is.alike.wants_memory at.between c.args.line.now) ∙ ap (λ es. takes_memory s es (line_of c.args.line.now)) (sym is.entries_are) ∙ ap (takes_memory s kept.entries) (sym c.line_of.ensures)
    ∙ c.in-Err.ensures.memory)

pub returns-in-Ok : goal.returns-in-Ok
returns-in-Ok g c = λ at is.
    let s = g.S.Spec.tests in
    let b = base_text c.args.resolver.now in
    let said = line_of c.args.line.now in
    let kept = c.args.self.now.register in
    let kept_new = c.reply_to.new.register in
    let n = c.args.self.now.answered in
    let state = sink_state g.O.Sink.written g.O.Sink.faults g.O.Sink.room_left in
    let old = state c.args.sink.now in
    let new = state c.put_reply.new.sink in
    subst (AnswersLine (IsRegisterAt s b kept_new (n + 1)) at c.args.line.now old new) (sym c.say_good.ensures)
    (answers_line s b kept kept_new n (n + 1) at c.args.line.now (reply_text c.in-Ok.reply) old new c.is_good.result c.put_reply.result
    is refl c.reply_to.ensures.base c.reply_to.ensures.mode
    (c.in-Ok.ensures.entries ∙ ap (λ l. obeyed_by kept.entries (command_of s kept.mode b (n + 2) l)) c.line_of.ensures
    ∙ ap (λ x. obeyed_by kept.entries (command_of s kept.mode x (n + 2) said)) is.own)
    (c.in-Ok.ensures.reply ∙ ap (answer_to s kept.mode b kept.entries) c.line_of.ensures ∙ ap (λ x. answer_to s kept.mode x kept.entries said) is.own) c.is_good.ensures c.put_reply.ensures)
