use Rattle.iri_grammar.proofs.Common.{◌∙◌, arith, row_test}
use Rattle.iri_grammar.proofs.units.RunBlocks.{name_run}
use Rattle.iri_grammar.proofs.units.FirstUnits.{run_of_le}
use Rattle.iri_grammar.proofs.run.small_name_len.Goals as goal

pub returns-clause-len : goal.returns-clause-len
returns-clause-len c = c.row_run_len.ensures ∙ name_run c.args.bytes.now c.type_inv.bytes

pub returns-clause-within : goal.returns-clause-within
returns-clause-within c = omega (arith, c.row_run_len.ensures, run_of_le (row_test 7) c.args.bytes.now)
