use Rattle.iri_robots.specs.inside.Fits.{whole}
use Rattle.iri_robots.proofs.pattern.fits.Goals as goal

pub returns-in-Star : goal.returns-in-Star
returns-in-Star c =
    let e = c.in-Star.ensures in
    let r = c.fits_after_star.ensures in
    (λ h. e.back (r.0 h), λ f. r.1 (e.onward c.args.text.now (whole c.args.text.now) f))
