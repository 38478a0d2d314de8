use Rattle.iri_register.proofs.Common.{◌≤◌, ◌<◌, ◌+◌, ◌-◌, length, gaps}
use Rattle.iri_register.proofs.entries.slot_after.Given as goal

abbrev pub invariant-loop-high : goal.invariant-loop-high
invariant-loop-high l = (l.low < l.high) × (l.high ≤ length l.fn.map.entries)
    × (l.low ≤ l.fn.count + gaps l.fn.map.entries l.low) × (l.fn.count + gaps l.fn.map.entries l.high < l.high)

abbrev pub decreases-loop-high : goal.decreases-loop-high
decreases-loop-high l = l.high - l.low
