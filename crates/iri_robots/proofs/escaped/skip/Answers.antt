use Rattle.std.proofs.Common.{refl, ◌∙◌}
use Rattle.iri_robots.specs.inside.Escaped.{left_of}
use Rattle.iri_robots.specs.inside.Escaped.{after_bytes}
use Rattle.iri_robots.proofs.Readings.{one_byte_more, none_after, at_count}
use Rattle.iri_robots.proofs.escaped.skip.Goals as goal

pub loop-init : goal.loop-init
unfolding after_bytes
loop-init c = refl

pub loop-preserved : goal.loop-preserved
loop-preserved c = c.in-Some.ensures.1 ∙ one_byte_more c.args.dollars c.loop.counter (left_of c.args.left) (left_of c.loop.after) c.loop.invariant

pub returns-in-None : goal.returns-in-None
returns-in-None c = none_after c.args.dollars c.args.count c.loop.counter (left_of c.args.left) (left_of c.loop.after) c.loop.invariant
    c.in-None.ensures c.loop.auto.counter-end

pub returns : goal.returns
returns c = at_count c.args.dollars c.args.count c.loop.counter (left_of c.args.left) (left_of c.loop.after) c.loop.invariant
    c.loop.auto.counter-end c.loop-test.false
