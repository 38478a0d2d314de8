use Rattle.iri_cli.proofs.Common.{◌≡◌, ◌∙◌, [], ◌∷◌, ◌++◌, Ok, Err, arith, false, refl, sym, ap, length, nat_lt, true, nat_tests}
use Rattle.iri_cli.proofs.Common.{with_items, base_text, template_answer}
use Rattle.iri_docs.specs.ErrorTexts.{description}
use Rattle.iri_docs.specs.Held.{held}
use Rattle.iri_cli.specs.docs.Rules.{docs_rules}
use Rattle.iri_cli.proofs.MemoryLemmas.{answers_memory}
use Rattle.iri_cli.proofs.DocsLemmas.{answers_docs, bad, docs_read}
use Rattle.iri_cli.proofs.CanonLemmas.{said_line, said_room}
use Rattle.iri_cli.proofs.StatelessLemmas.{answers_text}
use Rattle.iri_cli.proofs.docs.DocsAnswers.answer.Goals as goal

pub returns-in-Ok : goal.returns-in-Ok
returns-in-Ok g c = λ at is.
    let s = g.S.Spec.tests in
    let self = c.args.self.now in
    let mode = c.args.self.now.mode in
    let base = base_text c.args.resolver.now in
    let document = held c.in-Ok.document in
    let expansion = with_items self.expansion c.put_template.new.expansion in
    answers_docs is (sym expansion.ok.0 ∙ self.expansion.ok.0) c.put_template.ensures.capacity
    (answers_text _ _ _ s mode base at is.stands _ _ _ _ _
    (ap (λ v. template_answer s mode base v c.as_bytes.result.now) c.context.ensures
    ∙ ap (template_answer s mode base document.value_of) (c.as_bytes.ensures.value ∙ c.template.ensures)
    ∙ docs_read s mode base c.args.line.now (Ok document) c.in-Ok.ensures.answer)
    c.put_template.ensures.puts c.put_template.ensures.room)

pub returns-in-Memory : goal.returns-in-Memory
returns-in-Memory g c = λ at is.
    let has_bytes : nat_lt 0 (length c.args.line.now) ≡ true = grind (arith, nat_tests, c.in-Err.ensures.memory (ap Err c.in-Memory.is)) in
    answers_memory (docs_rules g.S.Spec.tests c.args.self.now.mode) at _ _ _ is.stands.rules has_bytes

pub returns-in_default : goal.returns-in_default
returns-in_default g c = λ at is.
    let s = g.S.Spec.tests in
    let mode = c.args.self.now.mode in
    let base = base_text c.args.resolver.now in
    let text = description c.in-Err.error ++ 10 ∷ [] in
    answers_docs is refl (omega arith)
    (answers_text _ _ _ s mode base at is.stands _ _ _ _ _
    (docs_read s mode base c.args.line.now (Err c.in-Err.error) (c.in-Err.ensures.answer c.in_default.not-Memory))
    (said_line false _ text text _ c.say_good.ensures (bad c.in-Err.error) refl c.put_refusal.ensures)
    (said_room false _ text text _ c.say_good.ensures refl c.put_refusal.ensures))
