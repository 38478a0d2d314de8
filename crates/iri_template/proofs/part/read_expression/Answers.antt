use Rattle.iri_template.proofs.Common.{◌≡◌, ◌+◌, None, length, sym, ◌∙◌, ap, refl, arith, pieces, varspecs_fault}
use Rattle.iri_grammar.specs.Cut.{tail}
use Rattle.iri_template.specs.Fault.{body_fault}
use Rattle.iri_template.specs.Reading.{operator_of, after_operator}
use Rattle.iri_template.proofs.Grammar.{delimiter_there}
use Rattle.iri_template.proofs.Prefixes.{brace_fault, closed_fine, closed_rest, body_len, operator_len, fine_varspecs, expression_part}
use Rattle.iri_template.proofs.part.read_expression.Goals as goal

pub overflow_add-varspecs-2 : goal.overflow_add-varspecs-2
overflow_add-varspecs-2 c =
    let t = c.args.s.now in
    let k = closed_fine t (sym (brace_fault t c.requires.brace) ∙ c.requires.fine) in
    let there = delimiter_there 125 (tail t) k.0 in
    omega (arith, c.requires.fits, ap length c.cut_body.ensures.body, body_len t there.0 c.requires.brace there.1)

pub invariant_of-varspecs : goal.invariant_of-varspecs
invariant_of-varspecs c =
    let t = c.args.s.now in
    let b = c.cut_body.result.0.now in
    let k = closed_fine t (sym (brace_fault t c.requires.brace) ∙ c.requires.fine) in
    let there = delimiter_there 125 (tail t) k.0 in
    let text = c.cut_operator-operator.ensures.varspecs in
    let fine : body_fault b ≡ None = ap body_fault c.cut_body.ensures.body ∙ k.1 in
    record {
      fine = record {
        fault = ap (λ l. varspecs_fault 0 (pieces 44 l)) text ∙ fine_varspecs b fine;
        within = omega (arith, ap length text, operator_len b);
        fits = omega (arith, c.requires.fits, ap length c.cut_body.ensures.body, body_len t there.0 c.requires.brace there.1);
      };
    }

pub returns : goal.returns
returns c =
    let t = c.args.s.now in
    let body = c.cut_body.ensures.body in
    let k = closed_fine t (sym (brace_fault t c.requires.brace) ∙ c.requires.fine) in
    let rest = closed_rest 125 c.cut_body.result.1 (tail t) c.or_empty.result.now c.or_empty.ensures c.cut_body.ensures.rest k.0 in
    expression_part c.cut_operator-operator.result.0 _ c.cut_operator-operator.result.1 c.args.at t c.or_empty.result.now c.requires.brace c.requires.fine
    rest (c.cut_operator-operator.ensures.operator ∙ ap operator_of body) (c.cut_operator-operator.ensures.varspecs ∙ ap after_operator body) refl
    (ap (λ l. c.args.at + 1 + length l) body)
