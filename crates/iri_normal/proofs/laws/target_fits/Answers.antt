use Rattle.iri_normal.proofs.targets.Targets.{target-fits}
use Rattle.iri_normal.proofs.laws.target_fits.Goals as goal

pub returns : goal.returns
returns g c = λ base r. target-fits g.S.Spec.tests base r
