use Rattle.iri_grammar.specs.Classes.{iri_tests}
use Rattle.iri_grammar.specs.inside.Laws.{iri_is_spec}
use Rattle.iri_types.proofs.conversions.View+UriSpec+K.to_iri_spec.Goals as goal

pub from_valid-requires : goal.from_valid-requires
from_valid-requires g c = g.met.K.Kind.within iri_tests iri_is_spec c.as_str.result.now c.as_str.ensures.valid
