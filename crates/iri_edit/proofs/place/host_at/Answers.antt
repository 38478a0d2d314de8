use Rattle.iri_edit.proofs.Common.{◌≡◌, ◌+◌, ◌∙◌, ap, length, subst, sym, IsHostAt, authority_parts, userinfo_text, reads, text}
use Rattle.iri_edit.proofs.PlaceLemmas.{host-place}
use Rattle.iri_edit.proofs.place.host_at.Goals as goal

pub returns : goal.returns
returns g c =
    let s = g.S.Spec.tests in
    let t = text c.args.reference in
    let a = c.in-Some.authority.now in
    let host : (authority_parts a).host ≡ c.host.result.now = sym (c.host.ensures ∙ ap (λ p. p.host) c.of-span.ensures) in
    let bytes : length (userinfo_text (authority_parts a).userinfo) ≡ c.userinfo_bytes.result =
    sym (c.userinfo_bytes.ensures ∙ ap (λ o. length (userinfo_text o)) (c.userinfo.ensures ∙ ap (λ p. p.userinfo) c.of-span.ensures)) in
    let valid = (reads s a c.in-Some.ensures.1).0.host in
    let at = host-place s t a c.in-Some.start c.in-Some.ensures.0 valid in
    subst (λ h. IsHostAt s t h (c.in-Some.start + c.userinfo_bytes.result)) host
    (subst (λ n. IsHostAt s t (authority_parts a).host (c.in-Some.start + n)) bytes at)
