use Rattle.iri_robots.proofs.Decisions.{match_is, allowed_is}
use Rattle.iri_robots.proofs.laws.rules_are_decided.Goals as goal

pub returns-clause-patterns : goal.returns-clause-patterns
returns-clause-patterns c = match_is

pub returns-clause-rules : goal.returns-clause-rules
returns-clause-rules c = allowed_is
