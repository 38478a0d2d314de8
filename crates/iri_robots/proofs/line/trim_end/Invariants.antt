use Rattle.std.proofs.Common.{◌≡◌, length}
use Rattle.iri_robots.specs.FileLines.{without_end}
use Rattle.iri_robots.proofs.line.trim_end.Given as goal

abbrev pub invariant-loop-last : goal.invariant-loop-last
invariant-loop-last l = without_end l.initial.text ≡ without_end l.text

abbrev pub decreases-loop-last : goal.decreases-loop-last
decreases-loop-last l = length l.text
