-- Hosts, byte by byte.
use Rattle.iri_percent.proofs.Common.{◌≡◌, ℕ, zero, suc, ◌-◌, ◌<◌, Bool, true, false, cond, not, ◌&&◌, List, [], ◌∷◌, length, take, drop}
use Rattle.iri_percent.proofs.Common.{get_or, refl, sym, ◌∙◌, ap, subst, arith, ◌==◌, nat_lt, list_all, is_ascii_uppercase}
use Rattle.iri_percent.proofs.Common.{to_ascii_lowercase, take_rest, not-true, Tests, both, two_digits, whole_triplets, normal}
use Rattle.iri_percent.proofs.Common.{is_ascii_host, is_plain_byte, normal_host, case_of, stays, NoCandidate}
use mathlib.Core.Bool.{and_assoc}
use Rattle.iri_percent.specs.NormalHost.{octet_below_128}
use Rattle.iri_percent.proofs.forms.Changes.{run_all}

pub percent_digits : (x : ℕ) (xs : List ℕ) → x ≡ 37 → whole_triplets (x ∷ xs) ≡ true → two_digits xs ≡ true
unfolding whole_triplets
percent_digits x xs e w = (both (two_digits xs) (whole_triplets xs)
    (ap (λ y. cond (y == 37) (two_digits xs) true && whole_triplets xs) (sym e) ∙ w)).0

-- whether the first byte is ASCII, and the octet of a triplet that it begins
abbrev pub ascii_prefix : ℕ → List ℕ → Bool
ascii_prefix x xs = nat_lt x 128 && cond (x == 37) (octet_below_128 xs) true

pub record Step (t tail : List ℕ) : Type 0 where
  pub whole : whole_triplets tail ≡ true
  pub same : is_ascii_host t ≡ (ascii_prefix (get_or t 0 0) tail && is_ascii_host tail)

step_at : (x : ℕ) (xs : List ℕ) → whole_triplets (x ∷ xs) ≡ true → Step (x ∷ xs) xs
unfolding whole_triplets is_ascii_host
step_at x xs w = record {
  whole = (both (cond (x == 37) (two_digits xs) true) (whole_triplets xs) w).1;
  same = sym (and_assoc (nat_lt x 128) (cond (x == 37) (octet_below_128 xs) true) (is_ascii_host xs));
}

pub step : (t : List ℕ) → 0 < length t → whole_triplets t ≡ true → Step t (take (length t - 1) (drop 1 t))
step [] l w = absurd (omega arith)
step (x ∷ xs) l w = subst (λ ys. Step (x ∷ xs) ys) (sym (take_rest (x ∷ xs) 1)) (step_at x xs w)

pub ascii_nil : (t : List ℕ) → length t < 1 → is_ascii_host t ≡ true
unfolding is_ascii_host
ascii_nil [] h = refl
ascii_nil (x ∷ xs) h = absurd (omega arith)

-- ---- a host that is in normal form as it stands
plain_ascii : (t : List ℕ) → list_all is_plain_byte t ≡ true → is_ascii_host t ≡ true
unfolding is_ascii_host
plain_ascii [] h = refl
plain_ascii (x ∷ xs) h =
    let k = both (is_plain_byte x) (list_all is_plain_byte xs) h in
    let j = both (nat_lt x 128) (not (x == 37) && not (is_ascii_uppercase x)) k.0 in
    let n : (x == 37) ≡ false = not-true (x == 37) (both (not (x == 37)) (not (is_ascii_uppercase x)) j.1).0 in
    rw (j.0, n) (plain_ascii xs k.1)

plain_stays : (t : List ℕ) → list_all is_plain_byte t ≡ true → NoCandidate true t (length t)
plain_stays [] h k j = absurd (omega arith)
plain_stays (x ∷ xs) h zero j = (both (nat_lt x 128) (stays true x) (both (is_plain_byte x) (list_all is_plain_byte xs) h).0).1
plain_stays (x ∷ xs) h (suc k) j = plain_stays xs (both (is_plain_byte x) (list_all is_plain_byte xs) h).1 k (omega arith)

pub host_case : (s : Tests) (t : List ℕ) → normal_host s t ≡ normal s (case_of (is_ascii_host t)) t
unfolding normal_host
host_case s t = elim (is_ascii_host t) as (λ b. cond b (normal s to_ascii_lowercase t) (normal s (case_of false) t)
    ≡ normal s (case_of b) t) [ true ↦ refl | false ↦ refl ]

pub plain_host : (s : Tests) (t : List ℕ) → list_all is_plain_byte t ≡ true → normal_host s t ≡ t
plain_host s t h = host_case s t ∙ ap (λ b. normal s (case_of b) t) (plain_ascii t h) ∙ run_all s true t (plain_stays t h)
