use Rattle.iri_link.proofs.Common.{ap, ◌∙◌, map, [], ◌∷◌, ◌++◌, map-append, link_of, param_of, string_bytes}
use Rattle.iri_link.specs.declared.link.Link.{Link}
use Rattle.iri_link.proofs.link.push_link.Goals as goal

pub returns : goal.returns
returns g c =
    let old = c.args.links.now.items in
    let l : Link = record { target = c.in_ok-target.target; params = c.new-params.result } in
    ap (map link_of) c.in_ok-push.ensures.items ∙ (map-append link_of old (l ∷ [])
    ∙ (ap (λ ps. map link_of old ++ (record { target = string_bytes c.in_ok-target.target; params = map param_of ps } ∷ [])) c.new-params.ensures.items
    ∙ ap (λ t. map link_of old ++ (record { target = t; params = [] } ∷ [])) c.in_ok-target.ensures))
