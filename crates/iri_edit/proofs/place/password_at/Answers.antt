use Rattle.iri_edit.proofs.Common.{◌≡◌, ◌+◌, ◌∙◌, ap, arith, length, subst, sym, Some, IsPasswordAt, authority_parts, after, text}
use Rattle.iri_edit.proofs.PlaceLemmas.{password-place, password-inside, no_authority, no_userinfo, no_colon}
use Rattle.iri_grammar.specs.OptionalSlices.{now_of}
use Rattle.iri_edit.proofs.place.password_at.Goals.{In-Some-after}
use Rattle.iri_edit.proofs.place.password_at.Given as given
use Rattle.iri_edit.proofs.place.password_at.Goals as goal

here : (g : given.Over) (c : In-Some-after g) → IsPasswordAt (text c.args.reference) (c.in-Some.start + length c.cut.result.0.now)
    (c.in-Some.start + length c.cut.result.0.now + 1 + length c.in-Some-after.password.now)
here g c =
    let u = c.in-Some-userinfo.userinfo.now in
    let a = c.in-Some.authority.now in
    let p = c.in-Some-after.password.now in
    let t = text c.args.reference in
    let start = c.in-Some.start in
    let user : (authority_parts a).userinfo ≡ Some u = sym (c.in-Some-userinfo.ensures ∙ ap (λ z. z.userinfo) c.of.ensures) in
    let after_it : after 58 u ≡ Some p = sym c.cut.ensures.after ∙ ap now_of c.in-Some-after.is in
    subst (λ b. IsPasswordAt t (start + length b) (start + length b + 1 + length p)) (sym c.cut.ensures.before)
    (password-place t a u p start user after_it c.in-Some.ensures.0)

pub returns-in_default : goal.returns-in_default
returns-in_default g c = no_authority (text c.args.reference) c.in_default.ensures

pub returns-in_default-userinfo : goal.returns-in_default-userinfo
returns-in_default-userinfo g c = no_userinfo (text c.args.reference) c.in-Some.authority.now c.in-Some.ensures.0.stands
    (c.in_default-userinfo.ensures ∙ ap (λ a. a.userinfo) c.of.ensures)

pub returns-in_default-after : goal.returns-in_default-after
returns-in_default-after g c =
    no_colon (text c.args.reference) c.in-Some.authority.now c.in-Some-userinfo.userinfo.now c.in-Some.ensures.0.stands
    (c.in-Some-userinfo.ensures ∙ ap (λ a. a.userinfo) c.of.ensures) (sym (ap now_of c.in_default-after.is) ∙ c.cut.ensures.after)

pub overflow_add-result-2 : goal.overflow_add-result-2
overflow_add-result-2 g c =
    let inside = password-inside _ _ _ (here g c) in
    omega arith

pub returns : goal.returns
returns g c = here g (goal.at.returns g c).In-Some-after
