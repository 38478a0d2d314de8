use Rattle.iri_edit.proofs.Common.{◌≡◌, ◌+◌, ◌++◌, ◌∙◌, [], ap, drop, sym, take, text, masked}
use Rattle.iri_edit.proofs.UnchangedTexts.{with_password-same}
use Rattle.iri_edit.proofs.SpliceLemmas.{password-spliced}
use Rattle.iri_normal.proofs.ShownTexts.{shows_same}
use Rattle.iri_edit.proofs.password.show_masked.Goals as goal

pub returns-in_default : goal.returns-in_default
returns-in_default g c =
    let t = text c.args.reference in
    let e : c.as_str-text.result.now ≡ masked t = c.as_str-text.ensures.text ∙ sym (with_password-same t [] c.in_default.ensures) in
    shows_same e c.put.ensures

pub returns : goal.returns
returns g c =
    let t = text c.args.reference in
    let same = c.as_str-text.ensures.text in
    let prefix : c.around.result.0.now ≡ take (c.in-Some.colon + 1) t = c.around.ensures.prefix ∙ ap (take (c.in-Some.colon + 1)) same in
    let back : c.around.result.1.now ≡ drop c.in-Some.end t = c.around.ensures.back ∙ ap (drop c.in-Some.end) same in
    let e : c.around.result.0.now ++ (c.around.result.1.now) ≡ masked t =
    ap (λ z. z ++ (c.around.result.1.now)) prefix
    ∙ (ap (λ z. take (c.in-Some.colon + 1) t ++ (z)) back ∙ password-spliced t c.in-Some.colon c.in-Some.end c.in-Some.ensures []) in
    shows_same e c.show_two.ensures
