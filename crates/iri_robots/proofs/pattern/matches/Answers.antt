use Rattle.std.proofs.Common.{◌++◌, ◌∷◌, [], ap, ◌∙◌}
use Rattle.iri_robots.proofs.Anchors.{apart, matches_anchored, matches_prefix}
use Rattle.iri_robots.proofs.pattern.matches.Goals as goal

pub returns-then-last-eq36 : goal.returns-then-last-eq36
returns-then-last-eq36 c =
    let e = c.in-Some.ensures.cases in
    matches_anchored c.fits.result c.args.pattern.now c.in-Some.prefix.now c.args.text.now (e.0
    ∙ ap (λ x. c.in-Some.prefix.now ++ x ∷ []) c.if-last-eq36.true) c.fits.ensures

pub returns-else-last-eq36 : goal.returns-else-last-eq36
returns-else-last-eq36 c =
    let e = c.in-Some.ensures.cases in
    matches_prefix c.fits-else-last-eq36.result c.args.pattern.now c.in-Some.prefix.now c.args.text.now c.in-Some.last.now e.0 (apart
    c.in-Some.last.now 36 c.if-last-eq36.false) c.fits-else-last-eq36.ensures
