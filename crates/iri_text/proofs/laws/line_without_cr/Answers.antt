use Rattle.iri_text.proofs.Parts.{no_cr-cr, no_cr-other}
use Rattle.iri_text.proofs.laws.line_without_cr.Goals as goal

pub returns-clause-cr : goal.returns-clause-cr
returns-clause-cr c = no_cr-cr

pub returns-clause-other : goal.returns-clause-other
returns-clause-other c = no_cr-other
