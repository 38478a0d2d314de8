use Rattle.iri_calls.proofs.Common.{◌≡◌, ℕ, List, [], cond, false, refl, sym, ◌∙◌, IsUtf8, is_utf8, false_from_ne_true, is_utf8-from_IsUtf8}
use Rattle.iri_calls.proofs.Common.{IsUtf8-from_is_utf8}
use Rattle.iri_calls.proofs.variables.as_str.Goals as goal

of_text : (b : List ℕ) → IsUtf8 b → cond (is_utf8 b) b [] ≡ b
of_text b u = rw (is_utf8-from_IsUtf8 b u) refl

of_bytes : (b : List ℕ) → ¬ (IsUtf8 b) → cond (is_utf8 b) b [] ≡ []
of_bytes b other = let e : is_utf8 b ≡ false = false_from_ne_true (is_utf8 b) (λ h. other (IsUtf8-from_is_utf8 b h)) in rw e refl

pub returns-in-Ok : goal.returns-in-Ok
returns-in-Ok c = c.in-Ok.ensures.cases.0 ∙ sym (of_text c.args.bytes.now c.in-Ok.ensures.cases.1)

pub returns-in-Err : goal.returns-in-Err
returns-in-Err c = sym (of_bytes c.args.bytes.now c.in-Err.ensures.cases.0)
