use Rattle.std.proofs.Common.{◌+◌, ◌-◌, ◌≤◌, length}
use Rattle.iri_robots.specs.inside.Periods.{HasPeriod}
use Rattle.iri_robots.proofs.periods.repeated_len.Given as goal

abbrev pub invariant-loop-len : goal.invariant-loop-len
invariant-loop-len l = record { within : l.period + l.len ≤ length l.text; period : HasPeriod l.text (l.period + l.len) l.period }

abbrev pub decreases-loop-len : goal.decreases-loop-len
decreases-loop-len l = length l.text - l.period - l.len
