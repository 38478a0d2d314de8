use Rattle.iri_normal.proofs.Common.{refl, arith}
use Rattle.iri_normal.proofs.segments.CutPaths.{nothing-plain}
use Rattle.iri_normal.proofs.segments.FirstDots.{found, none-there, pass-plain, pass-slash}
use Rattle.iri_normal.proofs.dots.next_dots.Goals as goal

pub returns-in-Some : goal.returns-in-Some
returns-in-Some c = record { more = c.args.path.now; whole = refl; ends = refl; plain = nothing-plain; prefix = c.in-Some.ensures }

pub places-preserved-then-b-gt47 : goal.places-preserved-then-b-gt47
places-preserved-then-b-gt47 c = record {
  low = omega arith;
  prefix = c.places.invariant.prefix;
  none = pass-plain c.args.path.now c.places.i c.places.invariant.low c.places-test.true c.if-b-gt47.true c.places.invariant.none;
}

pub places-preserved-then-b-eq47 : goal.places-preserved-then-b-eq47
places-preserved-then-b-eq47 c = record {
  low = omega arith;
  prefix = c.places.invariant.prefix;
  none = pass-slash c.args.path.now c.places.i c.places.invariant.low c.places-test.true c.if-b-eq47.true c.places.invariant.none;
}

pub returns-in-Some-dots_at : goal.returns-in-Some-dots_at
returns-in-Some-dots_at c =
    found c.args.path.now c.places.i c.in-Some-dots_at.dots.two c.in-Some-dots_at.dots.rest.now c.places.invariant.low c.places-test.true
    c.places.invariant.prefix c.places.invariant.none c.in-Some-dots_at.ensures.0 c.in-Some-dots_at.ensures.1

pub returns : goal.returns
returns c = none-there c.args.path.now c.places.i c.places-test.false c.places.invariant.prefix c.places.invariant.none
