use Rattle.iri_edit.proofs.Common.{◌≡◌, ◌+◌, ◌∙◌, ap, length, subst, sym, true, Some, IsAuthorityAt, is_authority, if_there, scheme_text}
use Rattle.iri_edit.proofs.Common.{split_of}
use Rattle.iri_edit.proofs.PlaceLemmas.{authority-place}
use Rattle.iri_edit.proofs.place.authority_at.Goals as goal

pub returns-in-Some : goal.returns-in-Some
returns-in-Some g c =
    let t = c.as_str.result.now in
    let value = c.of-parts.ensures.value in
    let stands : (split_of t).authority ≡ Some c.in-Some.authority.now = sym (c.in-Some.ensures ∙ ap (λ p. p.authority) value) in
    let start : length (scheme_text (split_of t).scheme) + 2 ≡ c.bytes_before.result =
    sym (c.bytes_before.ensures ∙ ap (λ o. length (scheme_text o) + 2) (c.scheme.ensures ∙ ap (λ p. p.scheme) value)) in
    let at = subst (IsAuthorityAt t c.in-Some.authority.now) start
    (authority-place t c.in-Some.authority.now c.as_str.utf8 c.as_str.type_inv.0 stands) in (
      subst (λ z. IsAuthorityAt z c.in-Some.authority.now c.bytes_before.result) c.as_str.ensures.text at,
      subst (λ o. if_there (is_authority g.S.Spec.tests) o ≡ true) (sym c.in-Some.ensures) c.of-parts.ensures.split.fits.authority,
    )
