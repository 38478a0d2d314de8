use Rattle.iri_template.proofs.Common.{◌≡◌, ◌+◌, true, false, Some, length, sym, ◌∙◌, ap, arith, from_any, ends_name, name_of, moved, modifier_fault}
use Rattle.iri_template.proofs.Common.{is_varname}
use Rattle.iri_template.proofs.VarSpecWalk.{good_name, bad_name, name_len}
use Rattle.iri_template.proofs.varspec.check_varspec.Goals as goal

pub returns-then-not-is_varname : goal.returns-then-not-is_varname
returns-then-not-is_varname c =
    let t = c.args.s.now in
    let bad : is_varname (name_of t) ≡ false =
    ap is_varname (sym (c.as_bytes.ensures.value ∙ c.cut_name.ensures.name)) ∙ sym c.is_varname.ensures ∙ c.if-not-is_varname.true in
    bad_name c.args.at t bad ∙ ap Some (sym c.new.ensures)

pub overflow_add-at : goal.overflow_add-at
overflow_add-at c = omega (arith, c.requires, name_len c.args.s.now, ap length c.cut_name.ensures.name)

pub read_modifier-requires : goal.read_modifier-requires
read_modifier-requires c =
    omega (arith, c.requires, name_len c.args.s.now, ap length c.cut_name.ensures.name, ap length c.cut_name.ensures.modifier, ap length c.as_bytes-2.ensures.value)

pub returns-in-Ok : goal.returns-in-Ok
returns-in-Ok c =
    let t = c.args.s.now in
    let good : is_varname (name_of t) ≡ true =
    ap is_varname (sym (c.as_bytes.ensures.value ∙ c.cut_name.ensures.name)) ∙ sym c.is_varname.ensures ∙ c.if-not-is_varname.false in
    good_name c.args.at t good ∙ ap (λ n. moved (c.args.at + n) (modifier_fault (from_any ends_name t))) (sym (ap length c.cut_name.ensures.name))
    ∙ ap (λ l. moved (c.args.at + length c.cut_name.result.0.now) (modifier_fault l)) (sym (c.as_bytes-2.ensures.value ∙ c.cut_name.ensures.modifier))
    ∙ c.in-Ok.ensures.fault

pub returns-in-Err : goal.returns-in-Err
returns-in-Err c =
    let t = c.args.s.now in
    let good : is_varname (name_of t) ≡ true =
    ap is_varname (sym (c.as_bytes.ensures.value ∙ c.cut_name.ensures.name)) ∙ sym c.is_varname.ensures ∙ c.if-not-is_varname.false in
    good_name c.args.at t good ∙ ap (λ n. moved (c.args.at + n) (modifier_fault (from_any ends_name t))) (sym (ap length c.cut_name.ensures.name))
    ∙ ap (λ l. moved (c.args.at + length c.cut_name.result.0.now) (modifier_fault l)) (sym (c.as_bytes-2.ensures.value ∙ c.cut_name.ensures.modifier))
    ∙ c.in-Err.ensures.fault
