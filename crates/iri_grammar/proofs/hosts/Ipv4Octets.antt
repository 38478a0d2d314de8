-- The numbers of an IPv4 text that are still to come.
use Rattle.iri_grammar.proofs.Common.{◌≡◌, ℕ, zero, suc, ◌-◌, ◌<◌, Bool, true, false, ◌&&◌, List, [], ◌∷◌, Some, None, refl, ◌∙◌, ap, arith}
use Rattle.iri_grammar.proofs.Common.{◌==◌, nat_tests, before, after, pieces, more_pieces, is_dec_octet}
use Rattle.iri_grammar.proofs.hosts.PiecesLaws.{pieces_cut}

-- one number, and so many after it
abbrev pub octets_left : ℕ → List (List ℕ) → Bool
octets_left n [] = false
octets_left zero (p ∷ []) = is_dec_octet p
octets_left zero (p ∷ q ∷ ps) = false
octets_left (suc n) (p ∷ ps) = is_dec_octet p && octets_left n ps

bad : (n : ℕ) (p : List ℕ) (ps : List (List ℕ)) → is_dec_octet p ≡ false → octets_left n (p ∷ ps) ≡ false
bad zero p [] h = h
bad zero p (q ∷ ps) h = refl
bad (suc n) p ps h = rw h refl

pub stop_bad : (n : ℕ) (t : List ℕ) → is_dec_octet (before 46 t) ≡ false → octets_left n (pieces 46 t) ≡ false
stop_bad n t h = ap (octets_left n) (pieces_cut 46 t) ∙ bad n (before 46 t) (more_pieces 46 (after 46 t)) h

pub stop_many : (t r : List ℕ) → after 46 t ≡ Some r → octets_left 0 (pieces 46 t) ≡ false
stop_many t r e = rw (pieces_cut 46 t, e, pieces_cut 46 r) refl

pub step_octet : (n : ℕ) (t r : List ℕ) → 0 < n → after 46 t ≡ Some r → is_dec_octet (before 46 t) ≡ true
    → octets_left (n - 1) (pieces 46 r) ≡ octets_left n (pieces 46 t)
step_octet zero t r l e h = absurd (omega arith)
step_octet (suc n) t r l e h = let m : suc n - 1 ≡ n = omega arith in rw (m, pieces_cut 46 t, e, h) refl

pub last_octet : (n : ℕ) (t : List ℕ) → after 46 t ≡ None → is_dec_octet (before 46 t) ≡ true → octets_left n (pieces 46 t) ≡ (n == 0)
last_octet zero t e h = rw (pieces_cut 46 t, e) h
last_octet (suc n) t e h = let more : (suc n == 0) ≡ false = grind (arith, nat_tests) in rw (more, pieces_cut 46 t, e, h) refl
