use Rattle.iri_grammar.proofs.Common.{◌∙◌, Some, ap, sym, first, subst, Answers}
use Rattle.iri_grammar.proofs.splits.TextParts.{no_text_fault, text_fault}
use Rattle.iri_grammar.proofs.validate.whole.stopped.Goals as goal

pub returns-in-Err : goal.returns-in-Err
returns-in-Err c f h = ap Some c.new-in-Err.ensures ∙ sym (no_text_fault (λ _. first f (Some c.args.last)) c.args.rest.now c.in-Err.ensures.cases.0)

pub returns-in-Ok-judged : goal.returns-in-Ok-judged
returns-in-Ok-judged c f h = ap Some c.new.ensures
    ∙ (ap (λ o. first o (Some c.args.last)) (sym (subst (λ r. Answers r f) c.in-Ok-judged.is h))
    ∙ sym (text_fault (λ _. first f (Some c.args.last)) c.args.rest.now c.in-Ok.ensures.cases.1))

pub returns-in-Err-judged : goal.returns-in-Err-judged
returns-in-Err-judged c f h = ap (λ o. first o (Some c.args.last)) (sym (subst (λ r. Answers r f) c.in-Err-judged.is h))
    ∙ sym (text_fault (λ _. first f (Some c.args.last)) c.args.rest.now c.in-Ok.ensures.cases.1)
