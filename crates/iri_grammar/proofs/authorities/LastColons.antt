-- The last colon, and host and port.
use Rattle.iri_grammar.proofs.Common.{◌≡◌, ℕ, zero, suc, ◌+◌, ◌<◌, true, false, ◌&&◌, List, [], ◌∷◌, Some, None, Option, MatchOption}
use Rattle.iri_grammar.proofs.Common.{length, drop, refl, sym, ◌∙◌, ap, arith, add-one, ◌==◌, slice_index, is_ascii_digit, and-false}
use Rattle.iri_grammar.proofs.Common.{false_from_ne_true, eqb-true, nat_tests, is_port}
use Rattle.memchr.specs.Find.{is_byte, IsLastByte}
use Rattle.iri_grammar.specs.inside.LastColon.{LastColon, NoColon}

none_at : (bs : List ℕ) → ((j : ℕ) → j < length bs → (slice_index bs j == 58) ≡ true → ⊥) → NoColon bs
none_at [] n = record { host = refl; port = refl }
none_at (x ∷ xs) n =
    let miss : (x == 58) ≡ false = false_from_ne_true (x == 58) (n 0 (omega arith)) in
    let h = none_at xs (λ j b. n (suc j) (omega arith)) in
    record { host = rw miss (ap (λ ys. x ∷ ys) h.host); port = rw miss h.port }

-- a text with a colon is no digits
colon_inside : (xs : List ℕ) (k : ℕ) → k < length xs → (slice_index xs k == 58) ≡ true → is_port xs ≡ false
colon_inside [] k l h = absurd (omega arith)
colon_inside (x ∷ xs) zero l h = let e : is_ascii_digit x ≡ false = grind (arith, nat_tests) in rw e refl
colon_inside (x ∷ xs) (suc k) l h =
    let t = colon_inside xs k (omega arith) h in elim (is_ascii_digit x) as (λ b. (b && is_port xs) ≡ false) [ true ↦ t | false ↦ refl ]

last_at : (bs : List ℕ) (k : ℕ) → k < length bs → ((j : ℕ) → k < j → j < length bs → (slice_index bs j == 58) ≡ true → ⊥)
    → (slice_index bs k == 58) ≡ true → LastColon bs k
last_at [] k l n p = absurd (omega arith)
last_at (x ∷ xs) zero l n p =
    let rest = none_at xs (λ j b. n (suc j) (omega arith) (omega arith)) in
    record {
      inside = l;
      byte = eqb-true x 58 p;
      digits_host = λ d. rw (p, d) refl;
      digits_port = λ d. rw (p, d) refl;
      else_host = λ d. rw (p, d) (ap (λ ys. x ∷ ys) rest.host);
      else_port = λ d. rw (p, d) rest.port;
    }
last_at (x ∷ xs) (suc k) l n p =
    let h = last_at xs k (omega arith) (λ j a b. n (suc j) (omega arith) (omega arith)) p in
    let no = colon_inside xs k (omega arith) p in
    let skip = and-false (x == 58) in
    let e : drop (suc k + 1) (x ∷ xs) ≡ drop (k + 1) xs = simp add-one in
    record {
      inside = l;
      byte = h.byte;
      digits_host = λ d. rw (no, skip) (ap (λ ys. x ∷ ys) (h.digits_host (sym (ap is_port e) ∙ d)));
      digits_port = λ d. rw (no, skip) (ap Some e ∙ h.digits_port (sym (ap is_port e) ∙ d));
      else_host = λ d. rw (no, skip) (ap (λ ys. x ∷ ys) (h.else_host (sym (ap is_port e) ∙ d)));
      else_port = λ d. rw (no, skip) (h.else_port (sym (ap is_port e) ∙ d));
    }

pub found : (bs : List ℕ) (r : Option ℕ) → IsLastByte (is_byte 58) bs r → MatchOption r (NoColon bs) (LastColon bs)
found bs None h = none_at bs (λ j b. h j (omega arith) b)
found bs (Some k) h = last_at bs k h.0.high (λ j a b. h.0.after j (omega arith) b) h.1
