use Rattle.iri_resolve.specs.inside.StepSinkLaws.{lines_shown}
use Rattle.iri_resolve.proofs.normal_steps.show_lines.Goals as goal

pub returns-clause-shows : goal.returns-clause-shows
returns-clause-shows g c = (lines_shown _ _ _ _ c.push_steps.ensures).0

pub returns-clause-same : goal.returns-clause-same
returns-clause-same g c = (lines_shown _ _ _ _ c.push_steps.ensures).1
