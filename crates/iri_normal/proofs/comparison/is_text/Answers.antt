use Rattle.iri_normal.proofs.Common.{[], sym, ◌∙◌, append-nil}
use Rattle.iri_normal.proofs.ComparedTexts.{stopped}
use Rattle.iri_normal.proofs.comparison.is_text.Goals as goal

pub returns-in-Err : goal.returns-in-Err
returns-in-Err g c = (
  λ h. cc,
  λ e. absurd (stopped c.show.result _ _ _ _ c.in-Err.is c.show.ensures.stops_within []
      (c.as_bytes.ensures.value ∙ sym e ∙ sym (append-nil _))),
)
