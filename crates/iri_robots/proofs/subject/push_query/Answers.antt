use Rattle.iri_robots.proofs.Common.{◌≡◌, ◌++◌, ◌∷◌, [], sym, ap, ◌∙◌, subst, append_assoc, append-nil, string_bytes, arith, encode_ascii}
use Rattle.iri_robots.proofs.Common.{now_of, compared, query_text}
use Rattle.std.specs.Prelude.{OnOk}
use Rattle.iri_robots.proofs.Forms.{compared_nil, query_mark}
use Rattle.iri_robots.proofs.subject.push_query.Goals as goal

pub returns-in_ok-push-in-Some : goal.returns-in_ok-push-in-Some
returns-in_ok-push-in-Some c =
    let form = string_bytes c.args.form.now in
    let query = c.in-Some.query.now in
    subst (λ z. OnOk c.push_part.result (string_bytes c.push_part.new.form ≡ z))
    (ap (λ z. z ++ compared query) (c.in_ok-push-in-Some.ensures.bytes ∙ ap (λ z. form ++ z) (encode_ascii 63 (omega arith)))
    ∙ append_assoc form (63 ∷ []) (compared query)
    ∙ ap (λ z. form ++ z) (sym (query_mark query))
    ∙ ap (λ o. form ++ compared (query_text (now_of o))) (sym c.in-Some.is))
    c.push_part.ensures

pub returns-in-None : goal.returns-in-None
returns-in-None c =
    let form = string_bytes c.args.form.now in
    sym (append-nil form) ∙ ap (λ z. form ++ z) (sym compared_nil)
    ∙ ap (λ o. form ++ compared (query_text (now_of o))) (sym c.in-None.is)
