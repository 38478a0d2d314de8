use Rattle.iri_edit.proofs.Common.{◌++◌, ◌∙◌, ap, drop, sym, take, append-nil, text}
use Rattle.iri_edit.proofs.UnchangedTexts.{without_password-same}
use Rattle.iri_edit.proofs.SpliceLemmas.{password-removed}
use Rattle.iri_edit.proofs.shown_removal.without_password.Goals as goal

pub returns-in_default : goal.returns-in_default
returns-in_default g c =
    append-nil c.as_str-text.result.now ∙ (c.as_str-text.ensures.text ∙ sym (without_password-same (text c.args.reference) c.in_default.ensures))

pub returns : goal.returns
returns g c =
    let t = text c.args.reference in
    ap (λ z. z ++ (c.around.result.1.now)) (c.around.ensures.prefix ∙ ap (take c.in-Some.colon) c.as_str-text.ensures.text)
    ∙ (ap (λ z. take c.in-Some.colon t ++ z) (c.around.ensures.back ∙ ap (drop c.in-Some.end) c.as_str-text.ensures.text)
    ∙ password-removed t c.in-Some.colon c.in-Some.end c.in-Some.ensures)
