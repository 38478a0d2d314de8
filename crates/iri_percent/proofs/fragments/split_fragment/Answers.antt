use Rattle.iri_percent.proofs.coding.Fragments.{run-first, from-drop}
use Rattle.iri_percent.proofs.fragments.split_fragment.Goals as goal

pub returns-clause-first : goal.returns-clause-first
returns-clause-first c = rw (c.split_run.ensures.run, c.split_run.ensures.rest) (run-first c.args.text.now c.requires c.if-text-eq37.false)

pub returns-clause-rest : goal.returns-clause-rest
returns-clause-rest c = rw (c.split_run.ensures.run, c.split_run.ensures.rest) (from-drop c.args.text.now)
