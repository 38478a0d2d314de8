-- The mapping of a text, run by run.
use Rattle.iri_percent.proofs.Common.{nat_lt, IsAscii, lt-ltb, IsAscii-cons, IsAscii-nil, run_of, triplet, mapped, triplets, goes_on}
use Rattle.std.proofs.Common.{◌≡◌, ℕ, suc, ◌<◌, true, false, cond, not, List, [], ◌∷◌, ◌++◌, length, take, drop, refl, sym, ◌∙◌, ap, subst}
use Rattle.std.proofs.Common.{arith, append_assoc, length-drop, ltb-true}
use Rattle.iri_percent.proofs.mapping.Texts.{mapped-low, mapped-high}

pub low-run : (t : List ℕ) → mapped t ≡ take (run_of (goes_on false) t) t ++ mapped (drop (run_of (goes_on false) t) t)
low-run [] = refl
low-run (x ∷ xs) =
    elim (nat_lt x 128) as (λ b. nat_lt x 128 ≡ b → mapped (x ∷ xs)
    ≡ take (cond b (suc (run_of (goes_on false) xs)) 0) (x ∷ xs)
    ++ mapped (drop (cond b (suc (run_of (goes_on false) xs)) 0) (x ∷ xs))) [
      | true ↦ λ e. mapped-low x xs e ∙ ap (λ z. x ∷ z) (low-run xs)
      | false ↦ λ _. refl
    ] refl

pub high-run : (t : List ℕ) → mapped t ≡ triplets (take (run_of (goes_on true) t) t) ++ mapped (drop (run_of (goes_on true) t) t)
high-run [] = refl
high-run (x ∷ xs) =
    elim (nat_lt x 128) as (λ b. nat_lt x 128 ≡ b → mapped (x ∷ xs)
    ≡ triplets (take (cond (not b) (suc (run_of (goes_on true) xs)) 0) (x ∷ xs))
    ++ mapped (drop (cond (not b) (suc (run_of (goes_on true) xs)) 0) (x ∷ xs))) [
      | true ↦ λ _. refl
      | false ↦ λ e. mapped-high x xs e ∙ ap (λ z. triplet x ++ z) (high-run xs)
          ∙ sym (append_assoc (triplet x) (triplets (take (run_of (goes_on true) xs) xs)) (mapped (drop (run_of (goes_on true) xs) xs)))
    ] refl

pub low-ascii : (t : List ℕ) → IsAscii (take (run_of (goes_on false) t) t)
low-ascii [] = IsAscii-nil
low-ascii (x ∷ xs) =
    elim (nat_lt x 128) as (λ b. nat_lt x 128 ≡ b → IsAscii (take (cond b (suc (run_of (goes_on false) xs)) 0) (x ∷ xs))) [
      | true ↦ λ e. IsAscii-cons x (take (run_of (goes_on false) xs) xs) (ltb-true x 128 e) (low-ascii xs)
      | false ↦ λ _. IsAscii-nil
    ] refl

-- something is taken of a text that isn't empty
pub runs-shorter : (t : List ℕ) → 0 < length t → length
    (drop (run_of (goes_on true) (drop (run_of (goes_on false) t) t)) (drop (run_of (goes_on false) t) t)) < length t
runs-shorter [] h = absurd (omega arith)
runs-shorter (x ∷ xs) h =
    elim (nat_lt x 128) as (λ b. nat_lt x 128 ≡ b → length
    (drop (run_of (goes_on true) (drop (cond b (suc (run_of (goes_on false) xs)) 0) (x ∷ xs)))
    (drop (cond b (suc (run_of (goes_on false) xs)) 0) (x ∷ xs))) < length (x ∷ xs)) [
      | true ↦ λ _. let u = drop (run_of (goes_on false) xs) xs in
          omega (arith, length-drop (run_of (goes_on true) u) u, length-drop (run_of (goes_on false) xs) xs)
      | false ↦ λ e. rw e (omega (arith, length-drop (run_of (goes_on true) xs) xs))
    ] refl

-- ---- ASCII
pub mapped-of_ascii : (t : List ℕ) → IsAscii t → mapped t ≡ t
mapped-of_ascii [] h = refl
mapped-of_ascii (x ∷ xs) h = mapped-low x xs (lt-ltb x 128 (h 0)) ∙ ap (λ z. x ∷ z) (mapped-of_ascii xs (λ i. h (suc i)))

-- ---- what was written, two runs, and the rest
pub one_run : (t done rest plain : List ℕ) → mapped t ≡ done ++ mapped rest → plain ≡ take (run_of (goes_on false) rest) rest
    → mapped t ≡ (done ++ plain) ++ mapped (drop (run_of (goes_on false) rest) rest)
one_run t done rest plain same p =
    same ∙ ap (λ z. done ++ z) (low-run rest ∙ ap (λ z. z ++ mapped (drop (run_of (goes_on false) rest) rest)) (sym p))
    ∙ sym (append_assoc done plain (mapped (drop (run_of (goes_on false) rest) rest)))

pub two_runs : (t done rest plain tail octets : List ℕ) → mapped t ≡ done ++ mapped rest → plain ≡ take (run_of (goes_on false) rest) rest
    → tail ≡ drop (run_of (goes_on false) rest) rest → octets ≡ take (run_of (goes_on true) tail) tail
    → mapped t ≡ ((done ++ plain) ++ triplets octets) ++ mapped (drop (run_of (goes_on true) tail) tail)
two_runs t done rest plain tail octets same p q o =
    one_run t done rest plain same p
    ∙ ap (λ z. (done ++ plain) ++ z) (ap mapped (sym q) ∙ high-run tail
    ∙ ap (λ z. triplets z ++ mapped (drop (run_of (goes_on true) tail) tail)) (sym o))
    ∙ sym (append_assoc (done ++ plain) (triplets octets) (mapped (drop (run_of (goes_on true) tail) tail)))

pub shorter_by : (rest tail last : List ℕ) → 0 < length rest → tail ≡ drop (run_of (goes_on false) rest) rest
    → last ≡ drop (run_of (goes_on true) tail) tail → length last < length rest
shorter_by rest tail last h q r =
    subst (λ z. length z < length rest) (sym (r ∙ ap (λ u. drop (run_of (goes_on true) u) u) q)) (runs-shorter rest h)

pub mapped-none : (t : List ℕ) → length t ≡ 0 → mapped t ≡ []
mapped-none [] h = refl
mapped-none (x ∷ xs) h = absurd (omega arith)

-- a text in ASCII stays
pub ruleset ascii_stays = (mapped-of_ascii)
