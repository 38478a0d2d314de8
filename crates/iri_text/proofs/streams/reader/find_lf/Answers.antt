use Rattle.std.proofs.Common.{arith, ◌+◌, length}
use Rattle.iri_text.proofs.LfBlocks.{first_after, none_after}
use Rattle.iri_text.proofs.streams.reader.find_lf.Goals as goal

pub returns-in-Some : goal.returns-in-Some
returns-in-Some c =
    let i = c.passed.i in
    first_after c.args.held.now i (i + 16) c.in-Some.k (omega arith) c.passed-test.true c.passed.invariant.no_lf c.in-Some.ensures

pub passed-preserved : goal.passed-preserved
passed-preserved c =
    let i = c.passed.i in
    let room = c.passed-test.true in
    record {
      within = room;
      no_lf = none_after c.args.held.now i (i + 16) (omega arith) room c.passed.invariant.no_lf c.in_default.ensures;
    }

pub returns-in-Some-memchr : goal.returns-in-Some-memchr
returns-in-Some-memchr c =
    first_after c.args.held.now c.passed.i (length c.args.held.now) c.in-Some-memchr.k c.passed.invariant.within (omega arith) c.passed.invariant.no_lf c.in-Some-memchr.ensures

pub returns-in-None : goal.returns-in-None
returns-in-None c = record {
  within = omega arith;
  no_lf = none_after c.args.held.now c.passed.i (length c.args.held.now) c.passed.invariant.within (omega arith) c.passed.invariant.no_lf c.in-None.ensures;
  found = λ h. absurd (omega (arith, h));
}
