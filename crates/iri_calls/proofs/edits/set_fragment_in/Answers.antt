use Rattle.iri_calls.proofs.Common.{◌++◌, ◌∷◌, ap, subst, ◌∙◌, before, Answered, text}
use Rattle.iri_calls.proofs.EditLemmas.{fragment_text}
use Rattle.iri_calls.proofs.edits.set_fragment_in.Goals as goal

pub returns-in-Ok-try_from_bytes : goal.returns-in-Ok-try_from_bytes
returns-in-Ok-try_from_bytes g c =
    let prefix = c.before_fragment-prefix.result.now in
    subst (λ o. Answered o c.args.out.now c.answer_text.new.out c.answer_text.new.detail c.answer_text.result)
    (ap (λ f. text (prefix ++ 35 ∷ f)) (c.as_str-fragment.ensures.text ∙ c.in-Ok-try_from_bytes.ensures.text)
    ∙ fragment_text g.S.Spec.tests g.met.S.Spec.lawful c.args.text.now c.in-Ok.ensures.fault prefix c.args.fragment.now
    (c.before_fragment-prefix.ensures ∙ ap (before 35) c.in-Ok.ensures.text) c.in-Ok-try_from_bytes.ensures.fault) c.answer_text.ensures
