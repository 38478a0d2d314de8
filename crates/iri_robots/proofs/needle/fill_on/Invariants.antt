use Rattle.std.proofs.Common.{◌-◌, ◌≤◌, length}
use Rattle.iri_robots.specs.inside.Escaped.{Left, Stands, left_of}
use Rattle.iri_robots.proofs.needle.fill_on.Given as goal

abbrev pub invariant-loop-filled : goal.invariant-loop-filled
invariant-loop-filled l = record {
  within : l.filled.bytes ≤ length l.needle;
  more : (k : Left) → Stands l.dollars l.needle k l.initial.filled.bytes (left_of l.initial.filled.left)
      → Stands l.dollars l.needle k l.filled.bytes (left_of l.filled.left);
}

abbrev pub decreases-loop-filled : goal.decreases-loop-filled
decreases-loop-filled l = length l.needle - l.filled.bytes
