use Rattle.iri_normal.proofs.Common.{sym, parts}
use Rattle.iri_types.proofs.Lemmas.{query-there}
use Rattle.iri_normal.proofs.resolver.FixedBaseResolver.query.Goals as goal

pub from_valid-requires : goal.from_valid-requires
from_valid-requires g c =
    query-there g.S.Spec.tests (parts c.parts.result.now).query c.in-Some.query.now c.parts.ensures.fits.query (sym c.in-Some.ensures)
