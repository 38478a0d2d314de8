use Rattle.std.proofs.Common.{◌≡◌, ◌⊎◌, ◌+◌, ◌-◌, ◌≤◌, length}
use Rattle.iri_robots.specs.inside.Periods.{ArePeriods, HasPeriod}
use Rattle.iri_robots.proofs.periods.periods_of.Given as goal

abbrev pub invariant-loop-known : goal.invariant-loop-known
invariant-loop-known l = record {
  known : ArePeriods l.text l.known;
  within : l.repeated ≡ 0 ⊎ l.known.settled + l.repeated ≤ length l.text;
  period : HasPeriod l.text (l.known.settled + l.repeated) l.known.settled;
}

abbrev pub decreases-loop-known : goal.decreases-loop-known
decreases-loop-known l = length l.text - l.known.settled
