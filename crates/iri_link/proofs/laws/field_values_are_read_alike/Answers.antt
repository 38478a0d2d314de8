use Rattle.iri_link.proofs.LaxLaws.{lax-alike}
use Rattle.iri_link.proofs.laws.field_values_are_read_alike.Goals as goal

pub returns : goal.returns
returns g c = lax-alike g.S.Spec.tests
