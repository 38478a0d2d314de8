-- A walk over a template without a fault.
use Rattle.iri_template.proofs.Common.{nil_from_length, ◌≡◌, ℕ, zero, suc, ◌+◌, ◌-◌, List, [], ◌∷◌, ◌++◌, length, map, Some, None, refl}
use Rattle.iri_template.proofs.Common.{sym, ◌∙◌, ap, arith, append_assoc, Piece, literal, names_of, piece_len, moved, first, piece_fault}
use Rattle.iri_template.proofs.Common.{fault_from, text_fault, Error}
use Rattle.iri_template.specs.Template.{piece_names}
use Rattle.iri_template.proofs.FaultLemmas.{moved_moved, moved_first, unmoved}

pub nothing_left : (at : ℕ) (t : List ℕ) → length t ≡ 0 → fault_from 0 at t ≡ None
unfolding fault_from
nothing_left at t h = ap (fault_from 0 at) (nil_from_length t h)

-- the same text further on in another
pub fault_moved : (a skip at : ℕ) (t : List ℕ) → fault_from skip (a + at) t ≡ moved a (fault_from skip at t)
unfolding fault_from
fault_moved a skip at [] = refl
fault_moved a (suc skip) at (x ∷ xs) = let z : a + at + 1 ≡ a + (at + 1) = omega arith in
    ap (λ n. fault_from skip n xs) z ∙ fault_moved a skip (at + 1) xs
fault_moved a zero at (x ∷ xs) =
    let n = piece_len (x ∷ xs) - 1 in
    let z : a + at + 1 ≡ a + (at + 1) = omega arith in
    ap (λ f. first f (fault_from n (a + at + 1) xs)) (sym (moved_moved a at (piece_fault (x ∷ xs))))
    ∙ (ap (first (moved a (moved at (piece_fault (x ∷ xs))))) (ap (λ m. fault_from n m xs) z ∙ fault_moved a n (at + 1) xs)
    ∙ sym (moved_first a (moved at (piece_fault (x ∷ xs))) (fault_from n (at + 1) xs)))

pub none_anywhere : (at : ℕ) (t : List ℕ) → fault_from 0 at t ≡ None → text_fault t ≡ None
none_anywhere at t h = let z : at + 0 ≡ at = omega arith in
    unmoved at (text_fault t) (sym (fault_moved at 0 0 t) ∙ (ap (λ n. fault_from 0 n t) z ∙ h))

pub fine_there : (at : ℕ) (t : List ℕ) → text_fault t ≡ None → fault_from 0 at t ≡ None
fine_there at t h = let z : at + 0 ≡ at = omega arith in sym (ap (λ n. fault_from 0 n t) z) ∙ (fault_moved at 0 0 t ∙ ap (moved at) h)

-- ---- the parts
pub names_append : (ps qs : List Piece) → names_of (ps ++ qs) ≡ names_of ps ++ names_of qs
names_append [] qs = refl
names_append (p ∷ ps) qs = ap (λ l. piece_names p ++ l) (names_append ps qs)
    ∙ sym (append_assoc (piece_names p) (names_of ps) (names_of qs))

pub literals_have_none : (cs : List ℕ) → names_of (map literal cs) ≡ []
literals_have_none [] = refl
literals_have_none (c ∷ cs) = literals_have_none cs

pub never : (at : ℕ) (t : List ℕ) (e : Error) → text_fault t ≡ None → fault_from 0 at t ≡ Some e → ⊥
never at t e h k = let fine = fine_there at t h in cc
