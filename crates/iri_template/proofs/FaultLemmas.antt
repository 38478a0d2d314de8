-- Faults that are moved, the first of several, and those of bytes that are UTF-8 and of others.
use Rattle.iri_template.proofs.Common.{◌≡◌, ℕ, ◌+◌, Bool, true, false, cond, List, [], ◌∷◌, length, Option, Some, None, refl, sym, ◌∙◌, ap}
use Rattle.iri_template.proofs.Common.{arith, fault, moved, first, varspec_fault, varspecs_fault, text_fault, template_fault, Error, IsUtf8}
use Rattle.iri_template.proofs.Common.{is_utf8, utf8_valid_len, is_utf8-from_IsUtf8, InvalidUtf8}
use Rattle.std.proofs.lemmas.Bool.{false_from_ne_true}
use Rattle.std.proofs.lemmas.Str.{IsUtf8-from_is_utf8}

pub moved_none : (f : Option Error) → moved 0 f ≡ f
moved_none None = refl
moved_none (Some e) = let z : 0 + e.location ≡ e.location = omega arith in ap (fault e.kind) z

pub moved_moved : (a b : ℕ) (f : Option Error) → moved a (moved b f) ≡ moved (a + b) f
moved_moved a b None = refl
moved_moved a b (Some e) = let z : a + (b + e.location) ≡ a + b + e.location = omega arith in ap (fault e.kind) z

pub moved_first : (a : ℕ) (f g : Option Error) → moved a (first f g) ≡ first (moved a f) (moved a g)
moved_first a None g = refl
moved_first a (Some e) g = refl

pub neither : (f g : Option Error) → first f g ≡ None → (f ≡ None) × (g ≡ None)
neither None g h = (refl, h)
neither (Some e) g h = cc

-- a test that is passed, before another fault
pub passed : (b : Bool) (f : Option Error) (e : Error) → cond b f (Some e) ≡ None → (b ≡ true) × (f ≡ None)
passed true f e h = (refl, h)
passed false f e h = cc

pub unmoved : (a : ℕ) (f : Option Error) → moved a f ≡ None → f ≡ None
unmoved a None h = refl
unmoved a (Some e) h = cc

-- varspecs further on in a text
pub varspecs_moved : (a at : ℕ) (vs : List (List ℕ)) → varspecs_fault (a + at) vs ≡ moved a (varspecs_fault at vs)
varspecs_moved a at [] = refl
varspecs_moved a at (v ∷ vs) =
    let z : a + at + length v + 1 ≡ a + (at + length v + 1) = omega arith in
    ap (λ f. first f (varspecs_fault (a + at + length v + 1) vs)) (sym (moved_moved a at (varspec_fault v)))
    ∙ (ap (λ g. first (moved a (moved at (varspec_fault v))) g) (ap (λ n. varspecs_fault n vs) z ∙ varspecs_moved a (at + length v + 1) vs)
    ∙ sym (moved_first a (moved at (varspec_fault v)) (varspecs_fault (at + length v + 1) vs)))

pub varspecs_anywhere : (at : ℕ) (vs : List (List ℕ)) → varspecs_fault at vs ≡ None → varspecs_fault 0 vs ≡ None
varspecs_anywhere at vs h = let z : at + 0 ≡ at = omega arith in
    unmoved at (varspecs_fault 0 vs) (sym (varspecs_moved at 0 vs) ∙ (ap (λ n. varspecs_fault n vs) z ∙ h))

pub of_text : (b : List ℕ) → IsUtf8 b → template_fault b ≡ text_fault b
of_text b u = rw (is_utf8-from_IsUtf8 b u) refl

pub of_bytes : (b : List ℕ) → ¬ (IsUtf8 b) → template_fault b ≡ fault InvalidUtf8 (utf8_valid_len b)
of_bytes b other = let e : is_utf8 b ≡ false = false_from_ne_true (is_utf8 b) (λ h. other (IsUtf8-from_is_utf8 b h)) in rw e refl
