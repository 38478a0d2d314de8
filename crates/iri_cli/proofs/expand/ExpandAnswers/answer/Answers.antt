use Rattle.iri_cli.proofs.Common.{◌∙◌, ap, arith, false, refl, sym, with_items, base_text, value_in}
use Rattle.iri_cli.specs.run.Refused.{bad_line}
use Rattle.iri_cli.specs.expand.Lines.{bad, changes, expands}
use Rattle.iri_cli.specs.inside.Said.{change_of}
use Rattle.iri_cli.specs.expand.Rules.{expand_rules, takes_memory}
use Rattle.iri_cli.proofs.MemoryLemmas.{answers_memory}
use Rattle.iri_cli.proofs.CanonLemmas.{said_line, said_room}
use Rattle.iri_cli.proofs.ExpandLemmas.{answers_nothing, answers_text, template_good}
use Rattle.iri_cli.proofs.expand.ExpandAnswers.answer.Goals as goal

pub returns-in-Ok : goal.returns-in-Ok
returns-in-Ok g c = λ at is.
    answers_nothing _ _ _ _ _ _ at is c.args.line.now (changes (change_of c.in-Changes.change)) (sym (c.in-Changes.ensures {u = tt})) _ refl _
    (c.in-Ok.ensures {u = tt})

pub returns-in-Err : goal.returns-in-Err
returns-in-Err g c = λ at is.
    answers_memory (expand_rules g.S.Spec.tests c.args.self.now.mode) at _ _ _ is.rules (ap takes_memory (sym (c.in-Changes.ensures {u = tt})))

pub returns-in-Expands : goal.returns-in-Expands
returns-in-Expands g c = λ at is.
    let self = c.args.self.now in
    let template = c.in-Expands.template.now in
    let expansion = with_items self.expansion c.put_template.new.expansion in
    answers_text _ _ _ _ _ _ at is c.args.line.now (expands template) (sym (c.in-Expands.ensures {u = tt})) _ _ expansion.items _ _
    (sym expansion.ok.0 ∙ self.expansion.ok.0) c.put_template.ensures.capacity refl
    (template_good g.S.Spec.tests self.mode (base_text c.args.resolver.now) (value_in self.values) template) c.put_template.ensures.puts
    c.put_template.ensures.room

pub returns-in-Bad : goal.returns-in-Bad
returns-in-Bad g c = λ at is.
    answers_text _ _ _ _ _ _ at is c.args.line.now bad (sym (c.in-Bad.ensures {u = tt})) _ _ _ _ _ refl (omega arith) refl refl
    (said_line false _ bad_line _ _ c.say_good.ensures refl refl c.put_bad_line.ensures)
    (said_room false _ bad_line _ _ c.say_good.ensures refl c.put_bad_line.ensures)
