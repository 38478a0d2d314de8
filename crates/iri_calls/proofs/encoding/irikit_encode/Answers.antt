use Rattle.iri_calls.proofs.Common.{ℕ, List, refl, sym, subst, text_fault, no_text_fault, encoded_as, no_fault, BAD_TEXT, Outcome, Answered}
use Rattle.iri_calls.proofs.Common.{in_grammar, unless_fault}
use Rattle.iri_calls.proofs.encoding.irikit_encode.Goals as goal

pub returns-in-Ok : goal.returns-in-Ok
returns-in-Ok c =
    let by = λ (t : List ℕ). in_grammar c.args.grammar (encoded_as c.args.place t) in
    let answered = λ (o : Outcome). Answered o c.args.out.now c.encode_text.new.out c.encode_text.new.detail c.encode_text.result in
    let whole = c.in-Ok.ensures.cases in
    subst (λ f. answered (unless_fault BAD_TEXT f (by c.args.raw.now))) (sym (text_fault no_fault c.args.raw.now whole.1))
    (subst (λ t. answered (by t)) whole.0 c.encode_text.ensures)

pub returns-in-Err : goal.returns-in-Err
returns-in-Err c =
    subst (λ f. Answered (unless_fault BAD_TEXT f (in_grammar c.args.grammar (encoded_as c.args.place c.args.raw.now)))
    c.args.out.now c.args.out.now c.answer_fault.new.detail c.answer_fault.result)
    (sym (no_text_fault no_fault c.args.raw.now c.in-Err.ensures.cases.0)) (refl, c.answer_fault.ensures.detail, c.answer_fault.ensures.status)
