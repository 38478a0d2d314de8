use Rattle.std.proofs.Common.{arith}
use Rattle.iri_grammar.proofs.units.RankTable.{from_table}
use Rattle.iri_grammar.proofs.class.Class.has_byte.Goals as goal

pub returns : goal.returns
returns c = rw (c.from.ensures, c.rank.ensures) (from_table c.args.self c.args.b (omega arith))
