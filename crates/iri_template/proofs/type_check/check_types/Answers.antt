use Rattle.iri_template.proofs.Common.{length, cond, Some, sym, ◌∙◌, ap, arith, pieces_of, placed_type_fault, type_fault, fault}
use Rattle.iri_template.proofs.Common.{UnexpectedValueType}
use Rattle.iri_template.specs.Places.{placed_pieces}
use Rattle.iri_template.specs.Variables.{placed_left}
use Rattle.iri_template.proofs.NoPrefixes.{none_mistyped}
use Rattle.iri_template.proofs.type_check.check_types.Goals as goal

pub varspecs-init : goal.varspecs-init
varspecs-init g c =
    let value = g.C.Context.value_of c.args.context.now in
    record {
      fault = ap (placed_type_fault value) (c.of-left.ensures.placed ∙ ap (λ t. placed_pieces 0 (pieces_of t)) c.as_str-s.ensures.text);
    }

pub returns-then-lacks_prefix : goal.returns-then-lacks_prefix
returns-then-lacks_prefix g c =
    let value = g.C.Context.value_of c.args.context.now in
    ap (λ t. type_fault value (pieces_of t)) (sym c.as_str-s.ensures.text)
    ∙ none_mistyped value 0 0 c.as_str-s.result.now (sym c.lacks_prefix.ensures ∙ c.if-lacks_prefix.true)

pub varspecs-smaller : goal.varspecs-smaller
varspecs-smaller g c = omega (arith, ap length c.in-Some.ensures)

pub varspecs-preserved : goal.varspecs-preserved
varspecs-preserved g c =
    let value = g.C.Context.value_of c.args.context.now in
    let v = c.in-Some.varspec in
    let rest = placed_type_fault value (placed_left c.next_varspec.new.self) in
    record {
      fault = ap (λ b. cond b (fault UnexpectedValueType v.location) rest) (sym c.if-is_mistyped.false ∙ c.is_mistyped.ensures)
          ∙ ap (placed_type_fault value) (sym c.in-Some.ensures) ∙ c.varspecs.invariant.fault;
    }

pub returns-then-is_mistyped : goal.returns-then-is_mistyped
returns-then-is_mistyped g c =
    let value = g.C.Context.value_of c.args.context.now in
    let v = c.in-Some.varspec in
    let rest = placed_type_fault value (placed_left c.next_varspec.new.self) in
    sym c.varspecs.invariant.fault ∙ ap (placed_type_fault value) c.in-Some.ensures
    ∙ ap (λ b. cond b (fault UnexpectedValueType v.location) rest) (sym c.is_mistyped.ensures ∙ c.if-is_mistyped.true) ∙ ap Some (sym c.new.ensures)

pub returns : goal.returns
returns g c =
    let value = g.C.Context.value_of c.args.context.now in
    sym c.varspecs.invariant.fault ∙ ap (placed_type_fault value) c.in_default.ensures.0
