use Rattle.iri_link.proofs.LaxLemmas.{comma_found, passing_on, passing_end}
use Rattle.iri_link.proofs.walk.find_comma.Goals as goal

pub returns-in-None : goal.returns-in-None
returns-in-None c = comma_found c.args.bytes.now c.loop-i.i c.loop-i.place c.loop-i-test.true c.loop-i.invariant c.in-None.ensures

pub loop-i-preserved : goal.loop-i-preserved
loop-i-preserved c = passing_on c.args.bytes.now c.loop-i.i c.loop-i.place c.loop-i-test.true c.loop-i.invariant c.in-Some.next c.in-Some.ensures

pub returns : goal.returns
returns c = passing_end c.args.bytes.now c.loop-i.i c.loop-i.place c.loop-i-test.false c.loop-i.invariant
