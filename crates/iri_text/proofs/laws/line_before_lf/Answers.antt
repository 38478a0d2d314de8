use Rattle.iri_text.proofs.LinesLemmas.{lines-lf}
use Rattle.iri_text.proofs.laws.line_before_lf.Goals as goal

pub returns : goal.returns
returns c = lines-lf
