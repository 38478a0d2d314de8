use Rattle.iri_text.proofs.LinesLemmas.{lines-last}
use Rattle.iri_text.proofs.laws.last_line.Goals as goal

pub returns : goal.returns
returns c = lines-last
