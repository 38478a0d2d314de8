-- Slashes of a text, and texts that end with one.
use Rattle.iri_normal.proofs.Common.{◌==◌, slice_index, eqb-true, drop_at, length-take-le, is_byte, IsLastByte, lacks, is_empty}
use Rattle.iri_normal.proofs.Common.{starts_with_slash, starts_with_slashes, to_last_slash, last_segment, ends_at_slash, ◌≡◌, ℕ, zero, suc}
use Rattle.iri_normal.proofs.Common.{◌+◌, ◌<◌, true, false, cond, not, ◌&&◌, List, [], ◌∷◌, Some, None, length, take, drop, ◌++◌, refl, sym}
use Rattle.iri_normal.proofs.Common.{◌∙◌, ap, arith, ◌-◌, ◌||◌, append_assoc, length-append, eq-eqb, before, after, delimited, joined}
use Rattle.std.proofs.Common.{add-one}
use Rattle.std.proofs.lemmas.Bool.{false_from_ne_true}
use Rattle.std.proofs.lemmas.List.{take_at}

-- ---- the last slash of a path
-- none, or the last at k
pub slash_is : (bs : List ℕ) (k : ℕ) → IsLastByte (is_byte 47) bs (Some k) → (k < length bs) × (slice_index bs k ≡ 47)
slash_is bs k h = (h.0.high, eqb-true (slice_index bs k) 47 h.1)

pub no_slash : (bs : List ℕ) → IsLastByte (is_byte 47) bs None → (lacks 47 bs ≡ true) × ([] ≡ to_last_slash bs)
no_slash [] h = (refl, refl)
no_slash (x ∷ xs) h =
    let miss : (x == 47) ≡ false = false_from_ne_true (x == 47) (h 0 (omega arith) (omega arith)) in
    let r = no_slash xs (λ j a b. h (suc j) (omega arith) (omega arith)) in
    (rw miss r.0, rw (miss, r.0) refl)

last_at : (bs : List ℕ) (k : ℕ) → k < length bs → ((j : ℕ) → k < j → j < length bs → (slice_index bs j == 47) ≡ true → ⊥)
    → (slice_index bs k == 47) ≡ true → (take (k + 1) bs ≡ to_last_slash bs) × (lacks 47 bs ≡ false)
last_at [] k l n p = absurd (omega arith)
last_at (x ∷ xs) zero l n p =
    let rest = no_slash xs (λ j a b. n (suc j) (omega arith) (omega arith)) in
    (rw p (ap (λ ys. x ∷ ys) rest.1), rw p refl)
last_at (x ∷ xs) (suc k) l n p =
    let h = last_at xs k (omega arith) (λ j a b. n (suc j) (omega arith) (omega arith)) p in
    let both : lacks 47 (x ∷ xs) ≡ false = elim (x == 47) as (λ b. (not b && lacks 47 xs) ≡ false) [ true ↦ refl | false ↦ h.1 ] in
    let e : take (suc k + 1) (x ∷ xs) ≡ x ∷ take (k + 1) xs = simp add-one in
    (e ∙ (rw both (ap (λ ys. x ∷ ys) h.0)), both)

pub last_slash : (bs : List ℕ) (k : ℕ) → IsLastByte (is_byte 47) bs (Some k) → take (k + 1) bs ≡ to_last_slash bs
last_slash bs k h = (last_at bs k h.0.high (λ j a b. h.0.after j (omega arith) b) h.1).0

-- ---- the last segment
pub none_after : (xs : List ℕ) → lacks 47 xs ≡ true → last_segment xs ≡ xs
none_after [] h = refl
none_after (x ∷ xs) h = rw h refl

pub at_last_slash : (xs : List ℕ) → (to_last_slash xs ++ last_segment xs ≡ xs) × (lacks 47 (last_segment xs) ≡ true)
at_last_slash [] = (refl, refl)
at_last_slash (x ∷ xs) =
    let r = at_last_slash xs in
    elim (lacks 47 (x ∷ xs)) as (λ b. lacks 47 (x ∷ xs) ≡ b
    → (cond b [] (x ∷ to_last_slash xs) ++ cond b (x ∷ xs) (last_segment xs) ≡ x ∷ xs) × (lacks 47 (cond b (x ∷ xs) (last_segment xs)) ≡ true)) [
      | true ↦ λ e. (refl, e)
      | false ↦ λ e. (ap (λ ys. x ∷ ys) r.0, r.1)
    ] refl

pub after_slash : (bs : List ℕ) (k : ℕ) → IsLastByte (is_byte 47) bs (Some k) → drop (k + 1) bs ≡ last_segment bs
after_slash bs k h =
    let prefix = last_slash bs k h in
    let size : length (to_last_slash bs) ≡ k + 1 = sym (ap length prefix) ∙ length-take-le (k + 1) bs (omega (arith, h.0.high)) in
    ap (drop (k + 1)) (sym (at_last_slash bs).0) ∙ drop_at (to_last_slash bs) (last_segment bs) (k + 1) size

-- what is cut at the last slash ends with it
has_prefix : (xs : List ℕ) → lacks 47 xs ≡ false → is_empty (to_last_slash xs) ≡ false
has_prefix [] h = cc
has_prefix (x ∷ xs) h = rw h refl

pub none_prefix : (xs : List ℕ) → lacks 47 xs ≡ true → to_last_slash xs ≡ []
none_prefix [] h = refl
none_prefix (x ∷ xs) h = rw h refl

pub ends : (xs : List ℕ) → ends_at_slash (to_last_slash xs) ≡ true
ends [] = refl
ends (x ∷ xs) =
    elim (lacks 47 xs) as (λ b. lacks 47 xs ≡ b → ends_at_slash (cond (not (x == 47) && b) [] (x ∷ to_last_slash xs)) ≡ true) [
      | true ↦ λ e. at_last e
      | false ↦ λ e. at_more (ends xs) e
    ] refl
  where
    at_last : lacks 47 xs ≡ true → ends_at_slash (cond (not (x == 47) && true) [] (x ∷ to_last_slash xs)) ≡ true
    at_last e =
        elim (x == 47) as (λ v. (x == 47) ≡ v → ends_at_slash (cond (not v && true) [] (x ∷ to_last_slash xs)) ≡ true) [
          | true ↦ λ k. rw (none_prefix xs e) k
          | false ↦ λ _. refl
        ] refl

    at_more : ends_at_slash (to_last_slash xs) ≡ true → lacks 47 xs ≡ false
        → ends_at_slash (cond (not (x == 47) && false) [] (x ∷ to_last_slash xs)) ≡ true
    at_more r e =
        elim (x == 47) as (λ v. ends_at_slash (cond (not v && false) [] (x ∷ to_last_slash xs)) ≡ true) [
          | true ↦ rw (has_prefix xs e) r
          | false ↦ rw (has_prefix xs e) r
        ]

-- ---- how a path begins
pub no_slashes : (p : List ℕ) → starts_with_slash p ≡ false → starts_with_slashes p ≡ false
no_slashes [] h = refl
no_slashes (x ∷ xs) h = ap (λ b. b && starts_with_slash xs) h

-- ---- texts that end with a slash, cut between their segments
-- ---- where a text ends with a slash
take-ends-suc : (t : List ℕ) (i : ℕ) → i < length t → slice_index t i ≡ 47 → ends_at_slash (take (suc i) t) ≡ true
take-ends-suc [] i l e = absurd (omega arith)
take-ends-suc (x ∷ xs) zero l e = eq-eqb x 47 e
take-ends-suc (x ∷ []) (suc i) l e = absurd (omega arith)
take-ends-suc (x ∷ y ∷ ys) (suc i) l e = take-ends-suc (y ∷ ys) i (omega arith) e

pub take-ends : (t : List ℕ) (i : ℕ) → i < length t → slice_index t i ≡ 47 → ends_at_slash (take (i + 1) t) ≡ true
take-ends t i l e = let n : i + 1 ≡ suc i = omega arith in rw n (take-ends-suc t i l e)

pub rest-ends : (a b : List ℕ) → ends_at_slash (a ++ b) ≡ true → ends_at_slash b ≡ true
rest-ends [] b h = h
rest-ends (x ∷ []) [] h = refl
rest-ends (x ∷ []) (y ∷ ys) h = h
rest-ends (x ∷ y ∷ ys) b h = rest-ends (y ∷ ys) b h

pub both-end : (a b : List ℕ) → ends_at_slash a ≡ true → ends_at_slash b ≡ true → ends_at_slash (a ++ b) ≡ true
both-end [] b h k = k
both-end (x ∷ []) [] h k = h
both-end (x ∷ []) (y ∷ ys) h k = k
both-end (x ∷ y ∷ ys) b h k = both-end (y ∷ ys) b h k

-- what ends with a slash, or of which nothing is taken away
pub rest-ok : (a b : List ℕ) (n : ℕ) → (ends_at_slash (a ++ b) || n == 0) ≡ true → (ends_at_slash b || n == 0) ≡ true
rest-ok [] b n h = h
rest-ok (x ∷ []) [] n h = refl
rest-ok (x ∷ []) (y ∷ ys) n h = h
rest-ok (x ∷ y ∷ ys) b n h = rest-ok (y ∷ ys) b n h

pub slash-ends : (s : List ℕ) → ends_at_slash (s ++ 47 ∷ []) ≡ true
slash-ends [] = refl
slash-ends (x ∷ []) = refl
slash-ends (x ∷ y ∷ ys) = slash-ends (y ∷ ys)

-- such a text is what stands before its last slash, and the slash
pub record EndSlash (t : List ℕ) : Type 0 where
  pub prefix : List ℕ
  pub whole : t ≡ prefix ++ 47 ∷ []

pub end_slash : (t : List ℕ) → ends_at_slash t ≡ true → 0 < length t → EndSlash t
end_slash [] h l = absurd (omega arith)
end_slash (x ∷ []) h l = record { prefix = []; whole = ap (λ c. c ∷ []) (eqb-true x 47 h) }
end_slash (x ∷ y ∷ ys) h l = let r = end_slash (y ∷ ys) h (omega arith) in record { prefix = x ∷ r.prefix; whole = ap (λ l. x ∷ l) r.whole }

pub without_end : (t : List ℕ) → ends_at_slash t ≡ true → 0 < length t → t ≡ take (length t - 1) t ++ 47 ∷ []
without_end t h l =
    let r = end_slash t h l in
    let n : length r.prefix ≡ length t - 1 = omega (arith, ap length r.whole, length-append r.prefix (47 ∷ [])) in
    let prefix : take (length t - 1) t ≡ r.prefix = ap (take (length t - 1)) r.whole ∙ take_at r.prefix (47 ∷ []) (length t - 1) n in
    r.whole ∙ ap (λ f. f ++ 47 ∷ []) (sym prefix)

-- ---- the last slash
pub after_last : (t a b : List ℕ) (k : ℕ) → IsLastByte (is_byte 47) t (Some k) → t ≡ a ++ b → length a ≡ k + 1 → lacks 47 b ≡ true
after_last t a b k h e n =
    let same : b ≡ last_segment t = sym (ap (drop (k + 1)) e ∙ drop_at a b (k + 1) n) ∙ after_slash t k h in
    ap (lacks 47) same ∙ (at_last_slash t).1

-- ---- the first segment

-- what stands before it, and what follows
pub first_whole : (t r : List ℕ) → after 47 t ≡ Some r → t ≡ (before 47 t ++ 47 ∷ []) ++ r
first_whole t r e = sym (joined 47 t) ∙ (ap (λ o. before 47 t ++ delimited 47 o) e ∙ sym (append_assoc (before 47 t) (47 ∷ []) r))
