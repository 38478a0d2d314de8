use Rattle.std.proofs.Common.{◌∙◌, ap}
use Rattle.iri_grammar.specs.Authority.{AuthorityParts}
use Rattle.iri_types.proofs.Lemmas.{host-valid}
use Rattle.iri_types.proofs.authority.AuthorityComponents.of.Goals as goal

pub host_is_reg_name-named-requires : goal.host_is_reg_name-named-requires
host_is_reg_name-named-requires g c =
    host-valid g.S.Spec.tests c.args.text.now c.host.result.now c.requires
    (c.host.ensures ∙ ap (λ (p : AuthorityParts). p.host) c.of-span.ensures)
