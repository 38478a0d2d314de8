use Rattle.iri_template.proofs.Common.{◌≡◌, Some, length, sym, ◌∙◌, ap, arith, now_of, moved, after}
use Rattle.iri_grammar.specs.Cut.{tail}
use Rattle.iri_template.proofs.Prefixes.{expression_past, expression_wrong, brace_fault, body_len, open_fault}
use Rattle.iri_template.proofs.fault.past_expression.Goals as goal

pub check_body-requires : goal.check_body-requires
check_body-requires c =
    let t = c.args.s.now in
    let rest : after 125 (tail t) ≡ Some c.in-Some.rest.now = sym c.cut_body.ensures.rest ∙ ap now_of c.in-Some.is in
    omega (arith, c.requires.fits, body_len t c.in-Some.rest.now c.requires.brace rest, ap length c.cut_body.ensures.body)

pub returns-in-Ok : goal.returns-in-Ok
returns-in-Ok c =
    expression_past c.args.at c.args.s.now c.cut_body.result.0.now c.in-Some.rest.now c.requires.brace
    (sym c.cut_body.ensures.rest ∙ ap now_of c.in-Some.is) c.cut_body.ensures.body c.in-Ok.ensures

pub returns-in-Err : goal.returns-in-Err
returns-in-Err c =
    expression_wrong c.args.at c.args.s.now c.cut_body.result.0.now c.in-Some.rest.now (Some c.in-Err.error) c.requires.brace
    (sym c.cut_body.ensures.rest ∙ ap now_of c.in-Some.is) c.cut_body.ensures.body c.in-Err.ensures

pub returns-in-None : goal.returns-in-None
returns-in-None c =
    let t = c.args.s.now in
    ap (moved c.args.at) (brace_fault t c.requires.brace) ∙ open_fault c.args.at t (sym c.cut_body.ensures.rest ∙ ap now_of c.in-None.is)
    ∙ ap Some (sym c.new.ensures)
