-- Bytes whose parts are texts are one.
use Rattle.iri_grammar.proofs.Common.{◌≡◌, ℕ, ◌+◌, ◌<◌, true, false, cond, List, [], ◌∷◌, ◌++◌, Option, Some, None, length, take, drop, sym}
use Rattle.iri_grammar.proofs.Common.{◌∙◌, ap, subst, arith, add-one, length-append, refl, slice_index, is_utf8, IsUtf8}
use Rattle.iri_grammar.proofs.Common.{IsCharBoundary-from_take, IsUtf8-append, IsUtf8-drop, IsUtf8-from_is_utf8, is_utf8-from_IsUtf8}
use Rattle.iri_grammar.proofs.Common.{take-append_seam, drop-append_seam, false_from_ne_true, Tests, fragment_char, path_char, query_char}
use Rattle.iri_grammar.proofs.Common.{delimited, Answers, bytes_fault, ErrorKind, InvalidUtf8, SchemeAt, AreOver}
use Rattle.std.proofs.Common.{drop-cons}
use Rattle.std.specs.Prelude.{Result}
use Rattle.std.proofs.lemmas.List.{take-append-drop}
use Rattle.iri_grammar.specs.declared.error.Error.{Error}
use Rattle.iri_grammar.proofs.authorities.AuthorityTexts.{one_byte-utf8, text_over-utf8}
use Rattle.iri_grammar.proofs.splits.SplitUnique.{part-utf8}

-- what follows a text in one
pub rest-text : (a r : List ℕ) → IsUtf8 a → IsUtf8 (a ++ r) → IsUtf8 r
rest-text a r u v =
    let cut = IsCharBoundary-from_take (a ++ r) (length a) v (omega (arith, length-append a r)) (subst IsUtf8 (sym (take-append_seam a r)) u) in
    subst IsUtf8 (drop-append_seam a r) (IsUtf8-drop (a ++ r) (length a) v cut)

-- a text before bytes decides nothing
pub text-after : (a r : List ℕ) → IsUtf8 a → is_utf8 (a ++ r) ≡ is_utf8 r
text-after a r u =
    elim (is_utf8 (a ++ r)) as (λ b. is_utf8 (a ++ r) ≡ b → b ≡ is_utf8 r) [
      | true ↦ λ e. sym (is_utf8-from_IsUtf8 r (rest-text a r u (IsUtf8-from_is_utf8 (a ++ r) e)))
      | false ↦ λ e. sym (false_from_ne_true (is_utf8 r)
          (λ k. let both : true ≡ false = sym (is_utf8-from_IsUtf8 (a ++ r) (IsUtf8-append a r u (IsUtf8-from_is_utf8 r k))) ∙ e in cc))
    ] refl

pub text-past : (t : List ℕ) (n : ℕ) → IsUtf8 (take n t) → is_utf8 t ≡ is_utf8 (drop n t)
text-past t n u = ap is_utf8 (sym (take-append-drop n t)) ∙ text-after (take n t) (drop n t) u

-- with a scheme
pub scheme-text : (t : List ℕ) (k : ℕ) → SchemeAt t k → is_utf8 t ≡ is_utf8 (drop (k + 1) t)
scheme-text t k at =
    let colon : slice_index t k < 128 = omega (arith, at.byte) in
    let rest : drop k t ≡ slice_index t k ∷ drop (k + 1) t = rw add-one (drop-cons t k 0 at.inside) in
    text-past t k at.text ∙ (ap is_utf8 rest ∙ text-after (slice_index t k ∷ []) (drop (k + 1) t) (one_byte-utf8 (slice_index t k) colon))

-- path, query and fragment in their productions
pub tail-text : (s : Tests) (path : List ℕ) (query fragment : Option (List ℕ)) (r : List ℕ) → AreOver s path query fragment
    → is_utf8 (path ++ (delimited 63 query ++ (delimited 35 fragment ++ r))) ≡ is_utf8 r
tail-text s path query fragment r h =
    text-after path (delimited 63 query ++ (delimited 35 fragment ++ r)) (text_over-utf8 (path_char s) path h.0)
    ∙ (text-after (delimited 63 query) (delimited 35 fragment ++ r) (part-utf8 (query_char s) 63 query (omega arith) h.1)
    ∙ text-after (delimited 35 fragment) r (part-utf8 (fragment_char s) 35 fragment (omega arith) h.2))

-- ---- the fault of bytes
pub text_fault : (f : List ℕ → Option ErrorKind) (bs : List ℕ) → IsUtf8 bs → bytes_fault f bs ≡ f bs
text_fault f bs u = rw (is_utf8-from_IsUtf8 bs u) refl

pub no_text_fault : (f : List ℕ → Option ErrorKind) (bs : List ℕ) → (IsUtf8 bs → ⊥) → bytes_fault f bs ≡ Some InvalidUtf8
no_text_fault f bs n = rw (false_from_ne_true (is_utf8 bs) (λ e. n (IsUtf8-from_is_utf8 bs e))) refl

-- what is said of a text is said of its bytes
pub answers-of : {A : Type 0} (r : Result A Error) (f : List ℕ → Option ErrorKind) (t bs : List ℕ) → t ≡ bs → IsUtf8 bs → Answers r (f t)
    → Answers r (bytes_fault f bs)
answers-of r f t bs e u a = subst (Answers r) (ap f e ∙ sym (text_fault f bs u)) a

-- bytes without a fault are a text without one
pub no_fault-of_bytes : (f : List ℕ → Option ErrorKind) (bs : List ℕ) → bytes_fault f bs ≡ None → IsUtf8 bs × (f bs ≡ None)
no_fault-of_bytes f bs h =
    elim (is_utf8 bs) as (λ b. is_utf8 bs ≡ b → cond b (f bs) (Some InvalidUtf8) ≡ None → IsUtf8 bs × (f bs ≡ None)) [
      | true ↦ λ e k. (IsUtf8-from_is_utf8 bs e, k)
      | false ↦ λ e k. cc
    ] refl h
