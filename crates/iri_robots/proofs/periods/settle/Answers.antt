use Rattle.iri_robots.proofs.Settled.{settled_short, settled_listed}
use Rattle.std.proofs.Common.{refl, arith}
use Rattle.iri_robots.proofs.periods.settle.Goals as goal

pub returns-then-period-repeated-clause-settled : goal.returns-then-period-repeated-clause-settled
returns-then-period-repeated-clause-settled c = λ _ t a b. settled_short t c.args.known.now _ c.args.repeated refl refl refl refl c.if-period-repeated.true a b

pub returns-clause-settled : goal.returns-clause-settled
returns-clause-settled c = λ _ t a b.
    let few = a.few in
    settled_listed t c.args.known.now _ c.args.repeated refl refl refl refl (omega arith) (omega arith) a b
