use Rattle.std.proofs.Common.{arith}
use Rattle.iri_text.proofs.LimitsLemmas.{long}
use Rattle.iri_text.proofs.laws.line_past_its_limit.Goals as goal

pub returns : goal.returns
returns c = λ line input place prefix rest n l i. long line input place 0 prefix rest n (omega arith) (omega (arith, l)) i
