use Rattle.std.proofs.Common.{rules}
use Rattle.iri_grammar.specs.Pieces.{pieces}
use Rattle.iri_grammar.specs.Blanks.{space}
use Rattle.iri_run_calls.proofs.RunLemmas.{no_command}
use Rattle.iri_run_calls.proofs.irikit_run.Goals as goal

pub returns-in-None-clause-run : goal.returns-in-None-clause-run
returns-in-None-clause-run c =
    let none = no_command (pieces space c.in-Ok.text.now) c.args.input.now c.args.out.now c.in-None.ensures in
    search rules
