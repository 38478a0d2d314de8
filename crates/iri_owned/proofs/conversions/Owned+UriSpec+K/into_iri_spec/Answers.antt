use Rattle.std.specs.String.{string_bytes}
use Rattle.iri_grammar.specs.Classes.{iri_tests}
use Rattle.iri_grammar.specs.inside.Laws.{iri_is_spec}
use Rattle.iri_owned.proofs.conversions.Owned+UriSpec+K.into_iri_spec.Goals as goal

pub from_valid-requires : goal.from_valid-requires
from_valid-requires g c = g.met.K.Kind.within iri_tests iri_is_spec (string_bytes c.into_string.result) c.into_string.ensures.valid
