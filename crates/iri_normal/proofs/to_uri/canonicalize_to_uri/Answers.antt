use Rattle.std.proofs.Common.{◌≡◌, rules}
use Rattle.iri_percent.specs.Mapping.{mapped}
use Rattle.iri_normal.specs.NormalForm.{canonical_in}
use Rattle.iri_normal.proofs.mapping.MappedCanonical.{mapped_is_canonical}
use Rattle.iri_normal.proofs.to_uri.canonicalize_to_uri.Goals as goal

pub returns-in-Ok-clause-canonical : goal.returns-in-Ok-clause-canonical
returns-in-Ok-clause-canonical g c =
    let s = g.S.Spec.tests in
    let is : c.in-Ok.uri.text ≡ mapped (canonical_in s c.args.mode c.args.base.now c.args.reference.now) = search rules in
    let valid = c.in_ok-text.ensures.causes in
    mapped_is_canonical s c.args.mode g.met.S.Spec.lawful c.args.base.now c.args.reference.now c.in-Ok.uri.text valid.0 valid.1 is
