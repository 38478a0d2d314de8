use Rattle.std.proofs.Common.{rules, arith, slice_index}
use Rattle.iri_robots.proofs.Forms.{prefix_past, low_stays}
use Rattle.iri_robots.proofs.compared.prefix_of.Goals as goal

pub returns-then-first-ge128 : goal.returns-then-first-ge128
returns-then-first-ge128 c =
    prefix_past c.args.text.now c.capital_digit.result c.capital_digit-then-first-ge128.result c.requires c.if-first-ge128.true (search
    rules)
    c.capital_digit.ensures c.capital_digit-then-first-ge128.ensures

pub run_prefix-requires : goal.run_prefix-requires
run_prefix-requires c = (c.requires, low_stays (slice_index c.args.text.now 0) (omega (arith, c.if-first-ge128.false)) (search rules))
