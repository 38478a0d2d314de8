-- A walk over varspecs: their faults, one by one, and the first of those that are left.
use Rattle.iri_template.proofs.Common.{◌≡◌, ◌≤◌, ℕ, ◌+◌, ◌-◌, true, false, cond, List, ◌∷◌, length, map, Option, Some, None, refl, sym}
use Rattle.iri_template.proofs.Common.{◌∙◌, ap, arith, length-append, before, after, delimited, joined, from_any, pieces, is_varname}
use Rattle.iri_template.proofs.Common.{ends_name, name_of, varspec_of, fault, moved, first, modifier_fault, varspec_fault, varspecs_fault}
use Rattle.iri_template.proofs.Common.{Error, InvalidExpression, Bor, now_of, varspec_text}
use Rattle.iri_grammar.specs.inside.PiecesLaws.{more_pieces}
use Rattle.iri_grammar.proofs.hosts.PiecesLaws.{pieces_cut}
use Rattle.iri_template.proofs.FaultLemmas.{moved_moved, unmoved, varspecs_anywhere, neither, passed}
use Rattle.iri_template.specs.Left.{varspecs_of, left_len, AreFine}
use Rattle.iri_template.specs.Places.{placed_varspecs}
use Rattle.iri_template.specs.VarSpecs.{placed_at}
use Rattle.iri_template.proofs.VarSpecLemmas.{any_joined, varspec_is}

-- ---- one varspec
pub good_name : (at : ℕ) (t : List ℕ) → is_varname (name_of t) ≡ true
    → moved at (varspec_fault t) ≡ moved (at + length (name_of t)) (modifier_fault (from_any ends_name t))
unfolding varspec_fault
good_name at t h =
    let n = length (name_of t) in
    ap (λ b. moved at (cond b (moved n (modifier_fault (from_any ends_name t))) (fault InvalidExpression 0))) h
    ∙ moved_moved at n (modifier_fault (from_any ends_name t))

pub bad_name : (at : ℕ) (t : List ℕ) → is_varname (name_of t) ≡ false → moved at (varspec_fault t) ≡ fault InvalidExpression at
unfolding varspec_fault
bad_name at t h =
    let z : at + 0 ≡ at = omega arith in
    ap (λ b. moved at (cond b (moved (length (name_of t)) (modifier_fault (from_any ends_name t))) (fault InvalidExpression 0))) h
    ∙ ap (fault InvalidExpression) z

pub name_len : (t : List ℕ) → length (name_of t) + length (from_any ends_name t) ≡ length t
name_len t = omega (arith, length-append (name_of t) (from_any ends_name t), ap length (any_joined ends_name t).0)

-- its name and modifier have no fault
pub fine_parts : (t : List ℕ) → varspec_fault t ≡ None → (is_varname (name_of t) ≡ true) × (modifier_fault (from_any ends_name t) ≡ None)
unfolding varspec_fault
fine_parts t h =
    let k = passed (is_varname (name_of t)) (moved (length (name_of t)) (modifier_fault (from_any ends_name t))) _ h in
    (k.0, unmoved (length (name_of t)) (modifier_fault (from_any ends_name t)) k.1)

-- ---- several, parted by commas
step : (at : ℕ) (t : List ℕ) → varspecs_fault at (pieces 44 t)
    ≡ first (moved at (varspec_fault (before 44 t))) (varspecs_fault (at + length (before 44 t) + 1) (more_pieces 44 (after 44 t)))
step at t = ap (varspecs_fault at) (pieces_cut 44 t)

pub cut_len : (t r : List ℕ) → Some r ≡ after 44 t → length (before 44 t) + 1 + length r ≡ length t
cut_len t r e = omega (
  arith,
  ap length (joined 44 t),
  length-append (before 44 t) (delimited 44 (after 44 t)),
  ap (λ o. length (delimited 44 o)) e,
)

pub more_varspecs : (at : ℕ) (t r : List ℕ) → Some r ≡ after 44 t → moved at (varspec_fault (before 44 t)) ≡ None
    → varspecs_fault at (pieces 44 t) ≡ varspecs_fault (at + (length t - length r)) (pieces 44 r)
more_varspecs at t r e h =
    let z : at + length (before 44 t) + 1 ≡ at + (length t - length r) = omega (arith, cut_len t r e) in
    step at t ∙ (ap (λ f. first f (varspecs_fault (at + length (before 44 t) + 1) (more_pieces 44 (after 44 t)))) h
    ∙ (ap (λ o. varspecs_fault (at + length (before 44 t) + 1) (more_pieces 44 o)) (sym e) ∙ ap (λ n. varspecs_fault n (pieces 44 r)) z))

pub last_varspec : (at : ℕ) (t : List ℕ) → None ≡ after 44 t → moved at (varspec_fault (before 44 t)) ≡ None
    → varspecs_fault at (pieces 44 t) ≡ None
last_varspec at t e h =
    step at t ∙ (ap (λ f. first f (varspecs_fault (at + length (before 44 t) + 1) (more_pieces 44 (after 44 t)))) h
    ∙ ap (λ o. varspecs_fault (at + length (before 44 t) + 1) (more_pieces 44 o)) (sym e))

pub bad_varspec : (at : ℕ) (t : List ℕ) (e : Error) → moved at (varspec_fault (before 44 t)) ≡ Some e
    → varspecs_fault at (pieces 44 t) ≡ Some e
bad_varspec at t e h = step at t ∙ ap (λ f. first f (varspecs_fault (at + length (before 44 t) + 1) (more_pieces 44 (after 44 t)))) h

-- ---- the first varspec of what is left
cut_specs : (t : List ℕ) (o : Option (Bor (List ℕ))) → now_of o ≡ after 44 t
    → map varspec_of (pieces 44 t) ≡ varspec_of (before 44 t) ∷ varspecs_of o
cut_specs t None e = ap (map varspec_of) (pieces_cut 44 t ∙ ap (λ o. before 44 t ∷ more_pieces 44 o) (sym e))
cut_specs t (Some r) e = ap (map varspec_of) (pieces_cut 44 t ∙ ap (λ o. before 44 t ∷ more_pieces 44 o) (sym e))

pub fine_first : (t : List ℕ) → varspecs_fault 0 (pieces 44 t) ≡ None → varspec_fault (before 44 t) ≡ None
fine_first t h = unmoved 0 (varspec_fault (before 44 t)) (neither (moved 0 (varspec_fault (before 44 t)))
    (varspecs_fault (0 + length (before 44 t) + 1) (more_pieces 44 (after 44 t))) (sym (step 0 t) ∙ h)).0

pub before_len : (t : List ℕ) → length (before 44 t) ≤ length t
before_len t = omega (arith, ap length (joined 44 t), length-append (before 44 t) (delimited 44 (after 44 t)))

-- the others are as fine
pub fine_others : (end : ℕ) (t : Bor (List ℕ)) (o : Option (Bor (List ℕ))) → now_of o ≡ after 44 t.now → AreFine (Some t) end → AreFine o end
fine_others end t None e k = record { fault = refl; within = omega arith; fits = k.fits }
fine_others end t (Some r) e k = record {
  fault = varspecs_anywhere (0 + (length t.now - length r.now)) (pieces 44 r.now)
      (sym (more_varspecs 0 t.now r.now e (ap (moved 0) (fine_first t.now k.fault))) ∙ k.fault);
  within = omega (arith, cut_len t.now r.now e, k.within);
  fits = k.fits;
}

-- it stands at its place, and the others after it
pub first_placed : (end : ℕ) (t : List ℕ) (o : Option (Bor (List ℕ))) → now_of o ≡ after 44 t → varspec_fault (before 44 t) ≡ None → length t ≤ end
    → placed_varspecs (end - length t) (map varspec_of (pieces 44 t))
    ≡ placed_at (end - length t) (varspec_of (before 44 t)) ∷ placed_varspecs (end - left_len o) (varspecs_of o)
first_placed end t o e h l =
    let n = end - length t in
    let first = placed_at n (varspec_of (before 44 t)) in
    let len : length (varspec_text (varspec_of (before 44 t))) ≡ length (before 44 t) = ap length (varspec_is (before 44 t) h).1 in
    ap (placed_varspecs n) (cut_specs t o e) ∙ ap (λ m. first ∷ placed_varspecs (n + m + 1) (varspecs_of o)) len
    ∙ ap (λ ps. first ∷ ps) (others o e)
  where
    others : (p : Option (Bor (List ℕ))) → now_of p ≡ after 44 t
        → placed_varspecs (end - length t + length (before 44 t) + 1) (varspecs_of p) ≡ placed_varspecs (end - left_len p) (varspecs_of p)
    others None f = refl
    others (Some r) f =
        let z : end - length t + length (before 44 t) + 1 ≡ end - length r.now = omega (arith, l, cut_len t r.now f) in
        ap (λ n. placed_varspecs n (map varspec_of (pieces 44 r.now))) z
