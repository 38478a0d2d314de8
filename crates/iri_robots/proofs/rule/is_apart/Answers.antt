use Rattle.std.proofs.Common.{arith}
use Rattle.iri_robots.proofs.Apart.{apart_by}
use Rattle.iri_robots.proofs.rule.is_apart.Goals as goal

pub returns : goal.returns
returns c _ =
    apart_by c.args.pattern.now c.args.second (omega (arith, c.if-pattern-lt2.false)) (omega (arith, c.if-pattern-ne47.false))
    c.if-byte-second.false c.if-byte-eq42.false c.if-byte-eq37.false c.if-byte-eq36.false
