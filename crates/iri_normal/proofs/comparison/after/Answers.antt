use Rattle.iri_normal.proofs.ComparedTexts.{stripped}
use Rattle.iri_normal.proofs.comparison.after.Goals as goal

pub returns : goal.returns
returns c = stripped c.strip_prefix.result c.args.text.now c.args.piece.now c.strip_prefix.ensures.cases
