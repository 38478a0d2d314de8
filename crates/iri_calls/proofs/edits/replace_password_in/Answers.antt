use Rattle.iri_calls.proofs.Common.{refl, ap, subst, ◌∙◌, InvalidUtf8, text_fault, no_text_fault, no_fault, Answered, text}
use Rattle.iri_edit.specs.Password.{with_password}
use Rattle.iri_edit.specs.Shown.{text_replaced}
use Rattle.iri_types.specs.Texts.{text as text_in}
use Rattle.iri_calls.proofs.EditLemmas.{password_text, password_refused}
use Rattle.iri_calls.proofs.edits.replace_password_in.Goals as goal

pub returns-in-Ok-from_utf8 : goal.returns-in-Ok-from_utf8
returns-in-Ok-from_utf8 g c =
    let t = c.args.text.now in let w = c.args.password.now in
    let shown = c.replace_password.ensures in let whole = c.in-Ok-from_utf8.ensures.cases in
    subst (λ o. Answered o c.args.out.now c.answer_text.new.out c.answer_text.new.detail c.answer_text.result)
    (ap (λ a. text (text_replaced (λ p. p.now) (text_in c.replace_password.result.view) a)) shown.alt
    ∙ ap (λ z. text (with_password (text_in c.replace_password.result.view) z)) whole.0
    ∙ password_text g.S.Spec.tests g.met.S.Spec.lawful t c.in-Ok.ensures.fault (text_in c.replace_password.result.view) w
    (ap text_in (shown.view ∙ c.mask_password.ensures.view) ∙ c.in-Ok.ensures.text) (text_fault no_fault w whole.1)) c.answer_text.ensures

pub returns-in-Err-from_utf8 : goal.returns-in-Err-from_utf8
returns-in-Err-from_utf8 g c =
    let answer = c.answer_fault-in-Err-from_utf8 in
    subst (λ o. Answered o c.args.out.now c.args.out.now answer.new.detail answer.result)
    (password_refused g.S.Spec.tests g.met.S.Spec.lawful c.args.text.now c.in-Ok.ensures.fault c.args.password.now InvalidUtf8
    (no_text_fault no_fault c.args.password.now c.in-Err-from_utf8.ensures.cases.0)) (refl, answer.ensures.detail, answer.ensures.status)
