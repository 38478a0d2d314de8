use Rattle.std.proofs.Common.{arith}
use Rattle.iri_robots.proofs.Apart.{second_short, second_long}
use Rattle.iri_robots.proofs.rule.second_of.Goals as goal

pub returns-then-text-lt2 : goal.returns-then-text-lt2
returns-then-text-lt2 c = second_short c.args.text.now (omega (arith, c.if-text-lt2.true))

pub returns-else-text-lt2 : goal.returns-else-text-lt2
returns-else-text-lt2 c = second_long c.args.text.now (omega (arith, c.if-text-lt2.false))
