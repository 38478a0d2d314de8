use Rattle.std.proofs.Common.{◌≡◌, ◌≢◌, ◌==◌, ◌∙◌, ℕ, List, false, refl, sym, ap}
use Rattle.std.specs.Str.{IsUtf8, is_utf8}
use Rattle.std.proofs.lemmas.Bool.{false_from_ne_true, ne_eqb}
use Rattle.std.proofs.lemmas.Str.{is_utf8-from_IsUtf8, IsUtf8-from_is_utf8}
use Rattle.iri_cli.specs.expand.Lines.{bad, change_line, fields_line}
use Rattle.iri_cli.proofs.expand.line.fields_line.Goals as goal

of_text : (letter : ℕ) (fields : List ℕ) → letter ≢ 116 → IsUtf8 fields → fields_line letter fields ≡ change_line letter fields
of_text letter fields other u = let e : (letter == 116) ≡ false = ne_eqb letter 116 other in rw (e, is_utf8-from_IsUtf8 fields u) refl

of_bytes : (letter : ℕ) (fields : List ℕ) → letter ≢ 116 → ¬ (IsUtf8 fields) → fields_line letter fields ≡ bad
of_bytes letter fields other n =
    let e : is_utf8 fields ≡ false = false_from_ne_true (is_utf8 fields) (λ h. n (IsUtf8-from_is_utf8 fields h)) in
    let d : (letter == 116) ≡ false = ne_eqb letter 116 other in rw (d, e) refl

pub returns-in-Ok : goal.returns-in-Ok
returns-in-Ok c =
    c.change_line.ensures ∙ ap (change_line c.args.letter) c.in-Ok.ensures.cases.0
    ∙ sym (of_text c.args.letter c.args.fields.now c.if-letter-eq116.false c.in-Ok.ensures.cases.1)

pub returns-in-Err : goal.returns-in-Err
returns-in-Err c = sym (of_bytes c.args.letter c.args.fields.now c.if-letter-eq116.false c.in-Err.ensures.cases.0)
