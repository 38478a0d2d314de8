use Rattle.std.proofs.Common.{length, ◌-◌, subst, eq-eqb, eqb-true}
use Rattle.iri_robots.specs.inside.Ends.{HasLastEscape}
use Rattle.iri_robots.proofs.Common.{take_rest}
use Rattle.iri_robots.proofs.LastParts.{last_escape_here, last_escape_is}
use Rattle.iri_robots.proofs.pattern.has_last_escape.Goals as goal

pub returns-in-Some : goal.returns-in-Some
returns-in-Some c =
    let q = c.args.pattern.now in
    let e = take_rest q (length q - 3) in (
      λ h. subst (λ x. HasLastEscape q x) (eqb-true c.in-Some.last c.args.special h) (last_escape_here q _ c.in-Some.last c.if-pattern-lt3.false e
          c.in-Some.ensures),
      λ h. eq-eqb c.in-Some.last c.args.special (last_escape_is q _ c.in-Some.last c.args.special e c.in-Some.ensures h),
    )
