-- What is answered of bytes, from what is answered of a text.
use Rattle.iri_link.proofs.Common.{◌≡◌, ℕ, List, [], ◌∷◌, cond, None, Some, Result, Ok, Err, refl, sym, ap, ◌∙◌, subst, MatchResult, is_utf8, IsUtf8}
use Rattle.iri_link.proofs.Common.{false_from_ne_true, is_utf8-from_IsUtf8, IsUtf8-from_is_utf8, Tests, field_fault, place_in, fault_from}
use Rattle.iri_link.proofs.Common.{LinkValue, HasLinks, before_link}
use Rattle.std.specs.Str.Lossy.{utf8_valid_len}
use denote.Bor.{Bor}
use Rattle.iri_link.specs.Fault.{Told}
use Rattle.iri_link.specs.declared.error.LinkKind.{LinkKind}
use Rattle.iri_link.specs.Refusals.{RefusedBy}
use Rattle.iri_link.specs.Readings.{links_in}
use Rattle.iri_link.specs.declared.error.LinkError.TheVariants.{Fault, Memory}
use Rattle.iri_link.specs.declared.error.LinkKind.TheVariants.{NotUtf8}
use Rattle.iri_link.proofs.FieldLemmas.{links_of_faultless}
use Rattle.iri_link.proofs.GrammarLemmas.{links_without_fault}

-- what has a fault has no link-values
faulty : (s : Tests) (x : List ℕ) (t : Told) → field_fault s x ≡ Some t → (ls : List LinkValue) → HasLinks s x ls → ⊥
faulty s x t e ls h = let n = links_without_fault s x ls h in cc

text_fault : (s : Tests) (y : List ℕ) → IsUtf8 y → field_fault s y ≡ place_in y (fault_from s before_link y)
text_fault s y u =
    ap (λ b. cond b (place_in y (fault_from s before_link y)) (Some (record { kind = NotUtf8; place = utf8_valid_len y }))) (is_utf8-from_IsUtf8 y u)

-- what is refused for a fault
pub fault_refused : (s : Tests) (x : List ℕ) (k : LinkKind) (p : ℕ) → field_fault s x ≡ Some (record { kind = k; place = p }) → RefusedBy s x (Fault k p)
fault_refused s x k p e = (e, faulty s x (record { kind = k; place = p }) e)

-- for want of memory
pub memory_refused : (s : Tests) (x : List ℕ) → field_fault s x ≡ None → (links_in x ≡ [] → ⊥) → RefusedBy s x Memory
memory_refused s x h some =
    elim (links_in x) as (λ ls. ls ≡ links_in x → RefusedBy s x Memory) [
      | [] ↦ λ e. absurd (some (sym e))
      | l ∷ ls ↦ λ e. (l, ls, subst (HasLinks s x) (sym e) (links_of_faultless s x h))
    ] refl

-- bytes that are no text
pub not_text : (s : Tests) (y : List ℕ) (n : ℕ) → (IsUtf8 y → ⊥) → n ≡ utf8_valid_len y → field_fault s y ≡ Some (record { kind = NotUtf8; place = n })
not_text s y n u e =
    ap (λ b. cond b (place_in y (fault_from s before_link y)) (Some (record { kind = NotUtf8; place = utf8_valid_len y }))) (false_from_ne_true (is_utf8 y) (λ h. u (IsUtf8-from_is_utf8 y h)))
    ∙ ap (λ m. Some (record { kind = NotUtf8; place = m })) (sym e)

-- what is answered of bytes that are this text
pub checked_text : (s : Tests) (x y : List ℕ) → x ≡ y → IsUtf8 y → (r : Result (Bor (List ℕ)) (LinkKind × ℕ))
    → MatchResult r (λ t. (t.now ≡ x) × (fault_from s before_link x ≡ None)) (λ e. place_in x (fault_from s before_link x) ≡ Some (record { kind = e.0; place = e.1 }))
    → MatchResult r (λ t. (t.now ≡ y) × (field_fault s y ≡ None)) (λ e. field_fault s y ≡ Some (record { kind = e.0; place = e.1 }))
checked_text s x y e u (Ok t) h =
    (h.0 ∙ e, text_fault s y u ∙ ap (place_in y) (sym (ap (fault_from s before_link) e) ∙ h.1))
checked_text s x y e u (Err (k, p)) h = text_fault s y u ∙ (sym (ap (λ z. place_in z (fault_from s before_link z)) e) ∙ h)
