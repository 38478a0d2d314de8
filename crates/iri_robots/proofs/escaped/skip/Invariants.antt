use Rattle.std.proofs.Common.{◌≡◌}
use Rattle.iri_robots.specs.inside.Escaped.{after_bytes, left_of}
use Rattle.iri_robots.proofs.escaped.skip.Given as goal

abbrev pub invariant-loop : goal.invariant-loop
invariant-loop l = left_of l.after ≡ after_bytes l.dollars l.counter (left_of l.left)
