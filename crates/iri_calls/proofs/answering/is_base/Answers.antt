use Rattle.iri_calls.proofs.Common.{◌∙◌, absolute_fault, ap, bytes_fault, sym}
use Rattle.iri_grammar.proofs.splits.TextParts.{text_fault}
use Rattle.iri_calls.proofs.answering.is_base.Goals as goal

pub returns : goal.returns
returns g c = λ e.
    let fault = absolute_fault g.S.Spec.tests in
    let is = c.is_text.ensures e in (
      sym c.base.ensures ∙ (sym c.as_str.ensures.text ∙ is),
      ap (bytes_fault fault) (sym is) ∙ (text_fault fault c.as_str.result.now c.as_str.utf8 ∙ c.as_str.ensures.valid),
    )
