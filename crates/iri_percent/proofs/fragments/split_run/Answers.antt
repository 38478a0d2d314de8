use Rattle.std.proofs.Common.{Some, None, ◌∙◌, length, arith}
use Rattle.std.proofs.lemmas.List.{take_all, drop_all}
use Rattle.iri_grammar.proofs.splits.FirstBytes.{found}
use Rattle.iri_percent.proofs.fragments.split_run.Goals as goal

pub returns-in-Some-clause-run : goal.returns-in-Some-clause-run
returns-in-Some-clause-run c = c.split_at.ensures.front ∙ (found 37 c.args.text.now (Some c.in-Some.i) c.in-Some.ensures).prefix

pub returns-in-Some-clause-rest : goal.returns-in-Some-clause-rest
returns-in-Some-clause-rest c = c.split_at.ensures.back ∙ (found 37 c.args.text.now (Some c.in-Some.i) c.in-Some.ensures).rest

pub returns-in-None-clause-run : goal.returns-in-None-clause-run
returns-in-None-clause-run c = c.split_at-in-None.ensures.front
    ∙ (take_all (length c.args.text.now) c.args.text.now (omega arith) ∙ (found 37 c.args.text.now None c.in-None.ensures).prefix)

pub returns-in-None-clause-rest : goal.returns-in-None-clause-rest
returns-in-None-clause-rest c = c.split_at-in-None.ensures.back
    ∙ (drop_all (length c.args.text.now) c.args.text.now (omega arith) ∙ (found 37 c.args.text.now None c.in-None.ensures).rest)
