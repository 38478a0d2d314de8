use Rattle.iri_robots.proofs.Common.{◌≡◌, ◌+◌, length, compared, escapes}
use Rattle.iri_robots.specs.inside.EscapeScans.{begun_then}
use Rattle.iri_robots.proofs.escape.has_more_escapes.Given as goal

-- what is counted, and what is left
abbrev pub invariant-loop-rest : goal.invariant-loop-rest
invariant-loop-rest l = l.most + escapes (begun_then l.scan.begun (compared l.rest)) ≡ l.scan.room + escapes (compared l.pattern)

abbrev pub decreases-loop-rest : goal.decreases-loop-rest
decreases-loop-rest l = length l.rest
