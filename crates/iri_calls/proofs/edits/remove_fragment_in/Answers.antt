use Rattle.iri_calls.proofs.Common.{ap, subst, ◌∙◌, before, Answered}
use Rattle.iri_calls.proofs.EditLemmas.{cut_text}
use Rattle.iri_calls.proofs.edits.remove_fragment_in.Goals as goal

pub returns-in-Ok : goal.returns-in-Ok
returns-in-Ok g c =
    subst (λ o. Answered o c.args.out.now c.answer_text.new.out c.answer_text.new.detail c.answer_text.result)
    (cut_text g.S.Spec.tests g.met.S.Spec.lawful c.args.text.now c.in-Ok.ensures.fault c.before_fragment.result.now
    (c.before_fragment.ensures ∙ ap (before 35) c.in-Ok.ensures.text)) c.answer_text.ensures
