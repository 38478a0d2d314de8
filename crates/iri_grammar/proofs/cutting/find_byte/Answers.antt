use Rattle.iri_grammar.proofs.splits.FirstBytes.{found}
use Rattle.iri_grammar.proofs.cutting.find_byte.Goals as goal

pub returns : goal.returns
returns c = found c.args.byte c.args.bytes.now c.memchr.result c.memchr.ensures
