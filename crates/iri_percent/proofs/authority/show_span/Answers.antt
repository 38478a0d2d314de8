use Rattle.iri_percent.proofs.Common.{◌≡◌, true, sym, subst, if_there, is_userinfo, whole_triplets}
use Rattle.iri_grammar.specs.Spans.{span_parts}
use Rattle.iri_percent.proofs.hosts.Authorities.{part_whole}
use Rattle.iri_percent.proofs.units.OfParts.{userinfo-whole}
use Rattle.iri_percent.proofs.authority.show_span.Goals as goal

pub show_userinfo-requires : goal.show_userinfo-requires
show_userinfo-requires g c =
    subst (λ o. if_there whole_triplets o ≡ true) (sym c.userinfo.ensures)
    (part_whole (is_userinfo g.S.Spec.tests) (span_parts c.args.span.now).userinfo
    (λ x h. userinfo-whole g.S.Spec.tests x g.met.S.Spec.lawful h) c.requires.userinfo)
