use Rattle.iri_robots.proofs.Common.{drop, rules_in_groups}
use Rattle.iri_robots.proofs.Runs.{IsJudged}
use Rattle.iri_robots.proofs.record.best_of.Given as goal

abbrev pub invariant-loop-record : goal.invariant-loop-record
invariant-loop-record l = IsJudged (rules_in_groups l.own l.records) l.text l.best (rules_in_groups l.own (drop l.record-index l.records))
