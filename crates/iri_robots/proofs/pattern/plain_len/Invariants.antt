use Rattle.std.proofs.Common.{◌-◌, length}
use Rattle.iri_robots.specs.inside.Plain.{HasPlainPrefix}
use Rattle.iri_robots.proofs.pattern.plain_len.Given as goal

abbrev pub invariant-loop-len : goal.invariant-loop-len
invariant-loop-len l = HasPlainPrefix l.pattern l.len

abbrev pub decreases-loop-len : goal.decreases-loop-len
decreases-loop-len l = length l.pattern - l.len
