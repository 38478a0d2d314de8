use Rattle.iri_percent.proofs.Common.{◌≡◌, None, sym, ap, subst, ◌∙◌, IsAscii, uri_tests, iri_tests, iri_is_spec}
use Rattle.std.specs.String.{string_bytes}
use Rattle.iri_percent.proofs.mapping.Runs.{mapped-of_ascii}
use Rattle.iri_percent.proofs.uris.OwnedIriSpecIntoUri.try_into_uri.Goals as goal

pub from_valid-requires : goal.from_valid-requires
from_valid-requires g c =
    let t = string_bytes c.into_string.result in
    let same = c.as_str.ensures.text ∙ sym (ap (λ o. o.text) c.into_string.ensures.text) in
    let ascii = subst IsAscii same c.if-is_ascii.ensures.cases in
    subst (λ z. g.K.Kind.fault uri_tests z ≡ None) (mapped-of_ascii t ascii)
    (c.mapped_is_valid.ensures iri_tests iri_is_spec t c.into_string.ensures.valid)
