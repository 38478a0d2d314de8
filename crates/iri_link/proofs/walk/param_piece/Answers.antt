use Rattle.iri_link.proofs.Common.{◌∙◌, refl, sym, both, is_token, now_of}
use Rattle.iri_link.specs.LaxReadings.{is_writable_value}
use Rattle.iri_link.proofs.KeptLemmas.{token_chars}
use Rattle.iri_link.proofs.LaxParams.{writable-said}
use Rattle.iri_link.proofs.walk.param_piece.Goals as goal

pub returns-then-is_writable : goal.returns-then-is_writable
returns-then-is_writable c =
    let n = c.args.name.now in
    let v = now_of c.args.value in
    let may = sym c.is_writable.ensures ∙ c.if-is_writable.true in
    (refl, writable-said c.args.escapes n v ∙ may, token_chars n (both (is_token n) (is_writable_value v) may).0)

pub returns-else-is_writable : goal.returns-else-is_writable
returns-else-is_writable c =
    writable-said c.args.escapes c.args.name.now (now_of c.args.value) ∙ (sym c.is_writable.ensures ∙ c.if-is_writable.false)
