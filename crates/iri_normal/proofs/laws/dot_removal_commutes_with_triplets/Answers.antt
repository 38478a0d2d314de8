use Rattle.iri_normal.proofs.triplets.PathTriplets.{dots-pct}
use Rattle.iri_normal.proofs.laws.dot_removal_commutes_with_triplets.Goals as goal

pub returns : goal.returns
returns g c = λ path w. dots-pct g.S.Spec.tests path g.met.S.Spec.lawful w
