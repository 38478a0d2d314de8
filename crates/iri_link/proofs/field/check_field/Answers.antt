use Rattle.iri_link.proofs.Common.{◌∙◌}
use Rattle.iri_link.proofs.AnswerLemmas.{checked_text, not_text}
use Rattle.iri_link.proofs.field.check_field.Goals as goal

pub returns-in-Ok : goal.returns-in-Ok
returns-in-Ok g c =
    let h = c.in-Ok.ensures.cases in
    checked_text g.S.Spec.tests c.in-Ok.text.now c.args.field.now h.0 h.1 c.check_valid.result c.check_valid.ensures

pub returns-in-Err : goal.returns-in-Err
returns-in-Err g c = not_text g.S.Spec.tests c.args.field.now c.valid_up_to.result c.in-Err.ensures.cases.0 (c.valid_up_to.ensures ∙ c.in-Err.ensures.valid_len)
