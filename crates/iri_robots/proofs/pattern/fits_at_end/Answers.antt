use Rattle.std.proofs.Common.{sym, ◌∙◌, refl}
use Rattle.iri_robots.proofs.Parts.{none_left}
use Rattle.iri_robots.proofs.LastParts.{nothing_wanted}
use Rattle.iri_robots.proofs.pattern.fits_at_end.Goals as goal

pub returns : goal.returns
returns c =
    let p = c.loop-pattern.pattern.now in
    (λ _. c.loop-pattern.invariant.fits.1 (nothing_wanted p c.loop-pattern.text.now (none_left p (sym c.is_empty.ensures ∙ c.loop-pattern-test.false))), λ _. refl)
