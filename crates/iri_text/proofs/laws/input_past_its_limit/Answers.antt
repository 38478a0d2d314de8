use Rattle.iri_text.proofs.LimitsLemmas.{over}
use Rattle.iri_text.proofs.laws.input_past_its_limit.Goals as goal

pub returns : goal.returns
returns c = over
