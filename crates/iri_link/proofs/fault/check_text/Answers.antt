use Rattle.iri_link.proofs.Common.{sym, ◌∙◌}
use Rattle.iri_link.proofs.PlainLemmas.{none_wrong}
use Rattle.iri_link.proofs.fault.check_text.Goals as goal

pub returns-then-is_empty : goal.returns-then-is_empty
returns-then-is_empty g c = c.pieces.invariant.same ∙ none_wrong g.S.Spec.tests c.pieces.inside c.pieces.rest.now (sym c.is_empty.ensures ∙ c.if-is_empty.true)
