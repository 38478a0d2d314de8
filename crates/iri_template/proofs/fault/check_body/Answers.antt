use Rattle.iri_template.proofs.Common.{◌≡◌, ◌<◌, ◌+◌, ◌-◌, false, length, get_or, sym, ◌∙◌, ap, arith, nat_tests, pieces, subst, varspecs_fault}
use Rattle.iri_template.specs.Fault.{Answers, is_reserved_operator}
use Rattle.iri_template.proofs.Prefixes.{free_body, rest_fault}
use Rattle.iri_template.proofs.fault.check_body.Goals as goal

pub returns : goal.returns
returns c =
    let b = c.args.body.now in
    let some : 0 < length b = grind (arith, nat_tests) in
    let free : is_reserved_operator (get_or b 0 0) ≡ false = ap (λ l. is_reserved_operator (get_or l 0 0)) (sym c.as_bytes.ensures.value)
    ∙ sym c.is_reserved_operator.ensures ∙ c.if-is_reserved_operator.false in
    subst (λ f. Answers c.check_varspecs.result f)
    (ap (λ t. varspecs_fault (c.args.at + (length b - length t)) (pieces 44 t)) c.cut_operator.ensures.varspecs
    ∙ sym (rest_fault c.args.at b (free_body b some free))) c.check_varspecs.ensures
