use Rattle.iri_resolve.proofs.Common.{◌∙◌, ap, whole_triplets, host-whole}
use Rattle.iri_resolve.proofs.part_steps.push_host.Goals as goal

pub is_ascii_host-lower-requires : goal.is_ascii_host-lower-requires
is_ascii_host-lower-requires g c = ap whole_triplets c.as_bytes.ensures.value
    ∙ host-whole g.S.Spec.tests c.args.host.now g.met.S.Spec.lawful c.requires.host

pub push_component-requires-clause-whole : goal.push_component-requires-clause-whole
push_component-requires-clause-whole g c = host-whole g.S.Spec.tests c.args.host.now g.met.S.Spec.lawful c.requires.host
