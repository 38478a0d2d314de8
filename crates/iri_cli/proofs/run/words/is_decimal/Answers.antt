use Rattle.iri_cli.proofs.Common.{◌<◌, ◌≤◌, arith, decimal, length, refl, length-decimal-le}
use Rattle.iri_cli.proofs.run.words.is_decimal.Goals as goal

pub returns-in-Err : goal.returns-in-Err
returns-in-Err c =
    let h : length (decimal c.args.number) ≤ 10 = length-decimal-le 10 c.args.number (omega arith) (omega (arith, c.ranges.number.fits))
    (omega (arith, c.ranges.number.fits)) in
    let long : 10 < length (decimal c.args.number) = c.in-Err.ensures.exact.0 refl in
    (λ e. absurd (cc e), λ e. absurd (omega (arith, h, long)))
