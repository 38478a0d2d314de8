use Rattle.iri_link.proofs.Common.{◌≡◌, ◌-◌, length, arith, rules, ap, ◌∙◌, map, [], ◌∷◌, ◌++◌, map-append, param_of, string_bytes}
use Rattle.std.specs.Vec.{vec_len}
use Rattle.std.proofs.lemmas.Result.{MatchResult-from_err}
use Rattle.iri_link.proofs.LinkLemmas.{grown_stored, some_stored}
use Rattle.iri_link.proofs.link.push_param.Goals as goal

pub returns-in_ok-push-in-Some : goal.returns-in_ok-push-in-Some
returns-in_ok-push-in-Some c =
    let ls = c.args.links.now.items in
    let l = c.in-Some.link.now in
    let there = c.in-Some.ensures.item.3.0 in
    let counted : vec_len c.args.links.now ≡ length ls = grind (arith, rules) in
    let more = ap (map param_of) c.in_ok-push-in-Some.ensures.items ∙ (map-append param_of l.params.items (c.in_ok-kept-in-Some.kept ∷ [])
    ∙ ap (λ q. map param_of l.params.items ++ (q ∷ [])) c.in_ok-kept-in-Some.ensures) in
    grown_stored ls (vec_len c.args.links.now - 1) l _ _ (omega (arith, counted, there)) c.in-Some.ensures.value
    (ap (λ ps. record { target = string_bytes l.target; params = ps }) more)

pub returns-in_err-kept-in-Some : goal.returns-in_err-kept-in-Some
returns-in_err-kept-in-Some c =
    let ls = c.args.links.now.items in
    let counted : vec_len c.args.links.now ≡ length ls = grind (arith, rules) in
    MatchResult-from_err c.from_residual.result _ _ c.from_residual.ensures.0 (λ _. some_stored ls (omega (arith, c.in-Some.ensures.item.3.0, counted)))

pub returns-in_err-push-in-Some : goal.returns-in_err-push-in-Some
returns-in_err-push-in-Some c =
    let ls = c.args.links.now.items in
    let counted : vec_len c.args.links.now ≡ length ls = grind (arith, rules) in
    MatchResult-from_err c.from_residual-in_err-push-in-Some.result _ _ c.from_residual-in_err-push-in-Some.ensures.0
    (λ _. some_stored ls (omega (arith, c.in-Some.ensures.item.3.0, counted)))
