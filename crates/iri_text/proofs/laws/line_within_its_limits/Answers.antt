use Rattle.iri_text.proofs.LimitsLemmas.{none-lf}
use Rattle.iri_text.proofs.laws.line_within_its_limits.Goals as goal

pub returns : goal.returns
returns c = none-lf
