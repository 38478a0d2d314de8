use Rattle.iri_template.proofs.Common.{◌≡◌, true, false, sym, ◌∙◌, ap, arith, is_varname}
use Rattle.std.specs.String.{string_bytes}
use Rattle.std.proofs.lemmas.Map.Text.{text_keys}
use Rattle.iri_template.specs.Contexts.{is_undefined}
use Rattle.iri_template.proofs.simple_context.SimpleContext.insert.Goals as goal

pub returns-then-is_undefined-clause-set : goal.returns-then-is_undefined-clause-set
returns-then-is_undefined-clause-set c = λ q.
    let u = c.remove.ensures.updates in
    let key : string_bytes c.args.key ≡ c.as_str.result.now = sym c.as_str.ensures.value in
    let name : is_varname (string_bytes c.args.key) ≡ true =
    ap is_varname (sym c.as_bytes.ensures.value) ∙ (sym c.is_varname.ensures ∙ c.if-not-is_varname.false) in
    let none : is_undefined c.args.value ≡ true = sym c.is_undefined.ensures ∙ c.if-is_undefined.true in
    rw (name, none) (grind (arith, text_keys))

pub returns-in-Ok-clause-set : goal.returns-in-Ok-clause-set
returns-in-Ok-clause-set c = λ q.
    let u = c.in-Ok.ensures.updates in
    let name : is_varname (string_bytes c.args.key) ≡ true =
    ap is_varname (sym c.as_bytes.ensures.value) ∙ (sym c.is_varname.ensures ∙ c.if-not-is_varname.false) in
    let some : is_undefined c.args.value ≡ false = sym c.is_undefined.ensures ∙ c.if-is_undefined.false in
    rw (name, some) (grind (arith, text_keys))
