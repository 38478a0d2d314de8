use Rattle.std.proofs.Common.{arith}
use Rattle.iri_robots.specs.inside.Escaped.{left_of}
use Rattle.iri_robots.proofs.Readings.{stands_more}
use Rattle.iri_robots.proofs.needle.fill_on.Goals as goal

pub loop-filled-preserved : goal.loop-filled-preserved
loop-filled-preserved c = record {
  within = omega arith;
  more = λ k s. stands_more c.args.dollars c.args.needle.now c.loop-filled.filled.bytes c.in-Some.byte k (left_of c.loop-filled.filled.left) (left_of
      c.in-Some.left) c.loop-filled-test.true c.if-byte-needle.false c.in-Some.ensures.0 c.in-Some.ensures.1 (c.loop-filled.invariant.more k s);
}
