-- Where a byte first stands, and what stands before and after it.
use Rattle.iri_grammar.proofs.Common.{◌≡◌, ℕ, zero, suc, ◌<◌, true, false, List, [], ◌∷◌, Some, None, Option, MatchOption, length, refl, ap}
use Rattle.iri_grammar.proofs.Common.{arith, add-one, ◌==◌, slice_index, eqb-true, false_from_ne_true}
use Rattle.memchr.specs.Find.{is_byte, IsFirstByte}
use Rattle.iri_grammar.specs.Cut.{CutAt, NoCut}
pub use Rattle.std.proofs.lemmas.Bool.{false_from_ne_true as false-where}

cut_at : (c : ℕ) (bs : List ℕ) (k : ℕ) → k < length bs → ((j : ℕ) → j < k → (slice_index bs j == c) ≡ true → ⊥)
    → (slice_index bs k == c) ≡ true → CutAt c bs k
cut_at c [] k l n p = absurd (omega arith)
cut_at c (x ∷ xs) zero l n p = record {
  inside = l;
  byte = eqb-true x c p;
  prefix = rw p refl;
  rest = rw p refl;
  tail = rw p refl;
  has = rw p refl;
}
cut_at c (x ∷ xs) (suc k) l n p =
    let miss : (x == c) ≡ false = false_from_ne_true (x == c) (n 0 (omega arith)) in
    let h = cut_at c xs k (omega arith) (λ j b. n (suc j) (omega arith)) p in
    record {
      inside = l;
      byte = h.byte;
      prefix = rw miss (ap (λ ys. x ∷ ys) h.prefix);
      rest = rw miss h.rest;
      tail = rw (miss, add-one) (rw add-one at h.tail);
      has = rw miss h.has;
    }

none_at : (c : ℕ) (bs : List ℕ) → ((j : ℕ) → j < length bs → (slice_index bs j == c) ≡ true → ⊥) → NoCut c bs
none_at c [] n = record { prefix = refl; rest = refl; tail = refl; has = refl }
none_at c (x ∷ xs) n =
    let miss : (x == c) ≡ false = false_from_ne_true (x == c) (n 0 (omega arith)) in
    let h = none_at c xs (λ j b. n (suc j) (omega arith)) in
    record { prefix = rw miss (ap (λ ys. x ∷ ys) h.prefix); rest = rw miss h.rest; tail = rw miss h.tail; has = rw miss h.has }

-- what `memchr` says, in these words
pub found : (c : ℕ) (bs : List ℕ) (r : Option ℕ) → IsFirstByte (is_byte c) bs r → MatchOption r (NoCut c bs) (λ k. CutAt c bs k)
found c bs None h = none_at c bs (λ j b. h j (omega arith) b)
found c bs (Some k) h = cut_at c bs k h.0.high (λ j b. h.0.before j (omega arith) b) h.1
