use Rattle.iri_cli.proofs.Common.{◌++◌, ◌∙◌, [], Ok, ap, false, refl, string_bytes, subst, sym, true, sink_state, base_text, record_texts}
use Rattle.iri_cli.proofs.Common.{AnswersLine, said_good, answer_to, robots_rules, IsRobotsAt}
use Rattle.std.specs.Option.{is_none}
use Rattle.iri_cli.specs.run.Refused.{bad_line}
use Rattle.iri_cli.specs.robots.Memory.{takes_memory}
use Rattle.iri_cli.specs.robots.Lines.{asks, bad, fed}
use Rattle.iri_cli.proofs.MemoryLemmas.{answers_memory}
use Rattle.iri_cli.proofs.RobotsLemmas.{answers_line, feeds_record, never_memory, no_reply, replies, unfed}
use Rattle.iri_cli.proofs.robots.CrawlsAnswers.answer.Goals as goal

pub returns-in-Ok : goal.returns-in-Ok
returns-in-Ok g c = λ at is.
    let s = g.S.Spec.tests in
    let site = c.args.self.now.site in
    let mode = site.mode in
    let base = base_text c.args.resolver.now in
    let records = record_texts site.robots.records.items in
    let new = record_texts c.feed_line.new.self.records.items in
    let old = sink_state g.O.Sink.written g.O.Sink.faults g.O.Sink.room_left c.args.sink.now in
    subst (λ t. AnswersLine (IsRobotsAt s mode t base site.scheme site.authority new) at c.args.line.now old old (Ok true)) (sym c.in-Ok.ensures.token)
    (answers_line s mode _ base _ _ records new at c.args.line.now [] old old (Ok true) is
    (ap (answer_to s mode (string_bytes site.robots.token) base records) c.in-Feeds.ensures)
    (c.in-Ok.ensures.records ∙ ap (λ l. records ++ fed l) c.in-Feeds.ensures) (λ h. absurd (cc h)) (no_reply old))

pub returns-in-Err : goal.returns-in-Err
returns-in-Err g c = λ at is.
    let s = g.S.Spec.tests in
    answers_memory (robots_rules s c.args.self.now.site.mode (string_bytes c.args.self.now.site.robots.token)) at _ _ _ is.rules
    (ap (takes_memory s) (sym c.in-Feeds.ensures) ∙ feeds_record _ c.in-Err.ensures.none)

pub returns-in-Asks : goal.returns-in-Asks
returns-in-Asks g c = λ at is.
    let s = g.S.Spec.tests in
    let robots = c.args.self.now.site.robots in
    let mode = c.args.self.now.site.mode in
    let base = base_text c.args.resolver.now in
    let records = record_texts robots.records.items in
    answers_line s mode _ base _ _ records records at c.args.line.now _ _ _ _ is
    (ap (answer_to s mode (string_bytes robots.token) base records) c.in-Asks.ensures)
    (unfed c.put_answer.result records (asks c.in-Asks.reference.now) c.args.line.now c.in-Asks.ensures refl)
    (λ h. ap (takes_memory s) (sym c.in-Asks.ensures) ∙ ap is_none (c.put_answer.ensures.memory h)) c.put_answer.ensures.reply

pub returns-in-Bad : goal.returns-in-Bad
returns-in-Bad g c = λ at is.
    let s = g.S.Spec.tests in
    let robots = c.args.self.now.site.robots in
    let mode = c.args.self.now.site.mode in
    let base = base_text c.args.resolver.now in
    let records = record_texts robots.records.items in
    let said = said_good false c.put_bad_line.result in
    subst (AnswersLine _ at _ _ _) (sym c.say_good.ensures)
    (answers_line s mode _ base _ _ records records at c.args.line.now bad_line _ _ said is
    (ap (answer_to s mode (string_bytes robots.token) base records) c.in-Bad.ensures)
    (unfed said records bad c.args.line.now c.in-Bad.ensures refl) (never_memory false c.put_bad_line.result)
    (replies false c.put_bad_line.result bad_line c.put_bad_line.ensures refl))
