use Rattle.std.proofs.Common.{length, take}
use Rattle.iri_robots.specs.inside.Plain.{Keeps}
use Rattle.iri_robots.specs.inside.Escaped.{Stands, left_of, left_text}
use Rattle.iri_robots.proofs.needle.search.Given as goal

abbrev pub invariant-loop-needle : goal.invariant-loop-needle
invariant-loop-needle l = record {
  kept : Keeps l.pattern l.text (left_of l.start).rest;
  stands : Stands l.dollars (take l.len l.pattern) (left_of l.start) l.filled.bytes (left_of l.filled.left);
}

abbrev pub decreases-loop-needle : goal.decreases-loop-needle
decreases-loop-needle l = length (left_text l.dollars (left_of l.start))
