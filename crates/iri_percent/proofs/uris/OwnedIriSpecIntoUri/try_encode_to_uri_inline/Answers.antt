use Rattle.iri_percent.proofs.Common.{sym, subst, IsAscii, iri_tests, iri_is_spec}
use Rattle.std.specs.String.{string_bytes}
use Rattle.iri_percent.proofs.mapping.Runs.{mapped-of_ascii}
use Rattle.iri_percent.proofs.uris.OwnedIriSpecIntoUri.try_encode_to_uri_inline.Goals as goal

pub replace_text-requires : goal.replace_text-requires
replace_text-requires g c = g.met.K.Kind.within iri_tests iri_is_spec (string_bytes c.into_string.result) c.into_string.ensures.valid

pub returns-then-is_ascii-clause-text : goal.returns-then-is_ascii-clause-text
returns-then-is_ascii-clause-text g c = sym (mapped-of_ascii c.args.self.now.text
    (subst IsAscii c.as_str.ensures.text c.if-is_ascii.ensures.cases))
