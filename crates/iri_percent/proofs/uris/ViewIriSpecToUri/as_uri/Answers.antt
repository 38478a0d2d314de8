use Rattle.iri_percent.proofs.Common.{◌≡◌, None, subst, uri_tests, iri_tests, iri_is_spec}
use Rattle.iri_percent.proofs.mapping.Runs.{mapped-of_ascii}
use Rattle.iri_percent.proofs.uris.ViewIriSpecToUri.as_uri.Goals as goal

pub from_valid-requires : goal.from_valid-requires
from_valid-requires g c =
    subst (λ z. g.K.Kind.fault uri_tests z ≡ None) (mapped-of_ascii c.as_str-text.result.now c.if-is_ascii.ensures.cases)
    (c.mapped_is_valid.ensures iri_tests iri_is_spec c.as_str-text.result.now c.as_str-text.ensures.valid)
