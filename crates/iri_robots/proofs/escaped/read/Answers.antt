use Rattle.std.proofs.lemmas.List.{nil_from_length}
use Rattle.iri_robots.proofs.Readings.{read_begun, read_rest, read_none}
use Rattle.iri_robots.proofs.escaped.read.Goals as goal

pub returns-in-Some : goal.returns-in-Some
returns-in-Some c = read_begun c.args.dollars c.args.left.begun.now c.args.left.rest.now c.in-Some.begun.now c.in-Some.first.now c.in-Some.ensures.cases.0

pub returns-in_default-split_first : goal.returns-in_default-split_first
returns-in_default-split_first c = read_none c.args.dollars c.args.left.begun.now c.args.left.rest.now (nil_from_length _ c.in_default.ensures.cases)
    (nil_from_length _ c.in_default-split_first.ensures.cases)

pub returns : goal.returns
returns c = read_rest c.args.dollars c.args.left.begun.now c.args.left.rest.now c.in-Some-split_first.rest.now _ _ c.in-Some-split_first.first.now
    (nil_from_length _ c.in_default.ensures.cases) c.in-Some-split_first.ensures.cases.0 c.head_of.ensures c.tail_of.ensures
