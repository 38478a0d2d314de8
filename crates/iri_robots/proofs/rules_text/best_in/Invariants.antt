use Rattle.iri_robots.proofs.Common.{length, rules_in}
use Rattle.iri_robots.proofs.Runs.{IsJudged}
use Rattle.iri_robots.proofs.rules_text.best_in.Given as goal

abbrev pub invariant-lines : goal.invariant-lines
invariant-lines l = IsJudged (rules_in l.lines) l.text l.best (rules_in l.rest)

abbrev pub decreases-lines : goal.decreases-lines
decreases-lines l = length l.rest
