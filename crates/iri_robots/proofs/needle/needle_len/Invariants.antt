use Rattle.std.proofs.Common.{ℕ, ◌+◌, ◌-◌, ◌≤◌, length, drop}
use Rattle.iri_robots.specs.inside.Escaped.{IsNeedle}
use Rattle.iri_robots.proofs.needle.needle_len.Given as goal

abbrev pub invariant-loop-len : goal.invariant-loop-len
invariant-loop-len l = record {
  within : l.len ≤ length l.pattern;
  needle : (n : ℕ) → IsNeedle l.dollars (drop l.len l.pattern) n → IsNeedle l.dollars l.pattern (l.len + n);
}

abbrev pub decreases-loop-len : goal.decreases-loop-len
decreases-loop-len l = length l.pattern - l.len
