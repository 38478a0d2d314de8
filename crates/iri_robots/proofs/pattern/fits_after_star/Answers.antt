use Rattle.iri_robots.proofs.Common.{length, sym, ◌∙◌, refl, take_rest}
use Rattle.std.proofs.lemmas.Bool.{false≢true}
use Rattle.iri_robots.proofs.Moves.{star_here, star_stops}
use Rattle.iri_robots.proofs.Parts.{some_left, star_moves}
use Rattle.iri_robots.proofs.Places.{nothing_left}
use Rattle.iri_robots.proofs.pattern.fits_after_star.Goals as goal

pub returns-in-End : goal.returns-in-End
returns-in-End c =
    let k = c.in-Some.ensures c.args.anchored in
    (λ _. c.loop-pattern.invariant.1 (k.fits.1 (star_here c.args.anchored c.loop-pattern.pattern.now c.in-Some.found.now c.in-End.ensures)), λ _. refl)

pub loop-pattern-preserved-in-Star : goal.loop-pattern-preserved-in-Star
loop-pattern-preserved-in-Star c =
    let i = c.loop-pattern.invariant in
    let k = c.in-Some.ensures c.args.anchored in
    let p = c.loop-pattern.pattern.now in
    let t = c.in-Some.found.now in (
      λ f. (star_stops c.args.anchored p t c.in-Star.rest.now c.in-Star.place.now c.in-Star.ensures (k.fits.0 (i.0 f))),
      λ f. i.1 (k.fits.1 (star_here c.args.anchored p t (c.in-Star.ensures.back f))),
    )

pub returns-then-is_empty : goal.returns-then-is_empty
returns-then-is_empty c =
    let k = c.in-Some.ensures c.args.anchored in
    let n = nothing_left c.args.anchored c.loop-pattern.pattern.now c.in-Some.found.now c.in-Nowhere.ensures (sym c.is_empty.ensures
    ∙ c.if-is_empty.true) in
    (λ e. absurd (false≢true e), λ f. absurd (n.none (k.fits.0 (c.loop-pattern.invariant.0 f))))

pub loop-pattern-preserved : goal.loop-pattern-preserved
loop-pattern-preserved c =
    let i = c.loop-pattern.invariant in
    let k = c.in-Some.ensures c.args.anchored in
    let p = c.loop-pattern.pattern.now in
    let t = c.in-Some.found.now in
    let m = star_moves c.args.anchored p t _ c.in-Nowhere.ensures (some_left (length t) (sym c.is_empty.ensures
    ∙ c.if-is_empty.false)) (take_rest t 1) in
    (λ f. m.0 (k.fits.0 (i.0 f)), λ f. i.1 (k.fits.1 (m.1 f)))

pub returns-in_default : goal.returns-in_default
returns-in_default c =
    let n = c.in_default.ensures c.args.anchored in
    (λ e. absurd (false≢true e), λ f. absurd (n.none (c.loop-pattern.invariant.0 f)))
