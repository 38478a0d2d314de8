use Rattle.std.proofs.Common.{◌≡◌, length}
use Rattle.iri_robots.specs.FileLines.{without_start}
use Rattle.iri_robots.proofs.line.trim_prefix.Given as goal

abbrev pub invariant-loop-text : goal.invariant-loop-text
invariant-loop-text l = without_start l.initial.text ≡ without_start l.text

abbrev pub decreases-loop-text : goal.decreases-loop-text
decreases-loop-text l = length l.text
