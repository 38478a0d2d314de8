-- The written form of a value, from delimiter to delimiter.
use Rattle.iri_link.proofs.Common.{◌≡◌, ℕ, zero, suc, ◌+◌, ◌-◌, ◌<◌, Bool, true, false, cond, List, [], ◌∷◌, ◌++◌, Option, Some, None}
use Rattle.iri_link.proofs.Common.{length, take, drop, refl, ap, ◌∙◌, arith, drop-cons, false_from_ne_true, escaped, not, both, by_test, lacks}
use Rattle.std.specs.Prelude.{◌==◌, ◌||◌, slice_index, slice_range, MatchOption}
use Rattle.std.proofs.lemmas.Bool.{or_left, or_right}
use Rattle.std.proofs.lemmas.Grind.{common_steps}
use Rattle.iri_grammar.proofs.splits.FirstBytes.{found}
use Rattle.memchr.specs.Find.{IsFirstByte, is_byte2}
use Rattle.iri_link.specs.inside.CutDelimiters.{IsDelimiterAt, IsCutAtDelimiter}

-- a `"` or a `\`
abbrev pub is_delimiter : ℕ → Bool
is_delimiter c = c == 34 || c == 92

-- a text with neither stands for itself
pub escaped-same : (t : List ℕ) → lacks 34 t ≡ true → lacks 92 t ≡ true → escaped t ≡ t
escaped-same [] h k = refl
escaped-same (c ∷ cs) h k =
    let a = both (not (c == 34)) (lacks 34 cs) h in
    let b = both (not (c == 92)) (lacks 92 cs) k in
    let i = escaped-same cs a.1 b.1 in
    by_test c 34 (λ v. not v ≡ true → cond (v || c == 92) (92 ∷ c ∷ escaped cs) (c ∷ escaped cs) ≡ c ∷ cs) (λ _ n. cc)
    (λ _ _. by_test c 92 (λ v. not v ≡ true → cond v (92 ∷ c ∷ escaped cs) (c ∷ escaped cs) ≡ c ∷ cs) (λ _ n. cc) (λ _ _. ap (λ l. c ∷ l) i) b.0) a.0

escaped-at : (t : List ℕ) (k : ℕ) → k < length t → ((j : ℕ) → j < k → is_delimiter (slice_index t j) ≡ true → ⊥)
    → is_delimiter (slice_index t k) ≡ true → escaped t ≡ (take k t ++ (92 ∷ slice_index t k ∷ [])) ++ escaped (drop (suc k) t)
escaped-at [] k l h m = absurd (omega arith)
escaped-at (c ∷ cs) zero l h m = ap (λ b. cond b (92 ∷ c ∷ escaped cs) (c ∷ escaped cs)) m
escaped-at (c ∷ cs) (suc k) l h m =
    let none : is_delimiter c ≡ false = false_from_ne_true (is_delimiter c) (h 0 (omega arith)) in
    let rest = escaped-at cs k (omega arith) (λ j i n. h (suc j) (omega arith) n) m in
    ap (λ b. cond b (92 ∷ c ∷ escaped cs) (c ∷ escaped cs)) none ∙ ap (λ l. c ∷ l) rest

delimiter-low : (c : ℕ) → is_delimiter c ≡ true → c < 128
delimiter-low c h = grind (arith, common_steps)

-- what `memchr2` says, in these words
pub delimiter_found : (t : List ℕ) (r : Option ℕ) → IsFirstByte (is_byte2 34 92) t r → MatchOption r (escaped t ≡ t) (λ k. IsDelimiterAt t k)
delimiter_found t None h =
    escaped-same t (found 34 t None (λ k a l m. h k a l (or_left (slice_index t k == 34) (slice_index t k == 92) m))).has
    (found 92 t None (λ k a l m. h k a l (or_right (slice_index t k == 34) (slice_index t k == 92) m))).has
delimiter_found t (Some k) h = record {
  inside = h.0.high;
  low = delimiter-low (slice_index t k) h.1;
  written = escaped-at t k h.0.high (λ j l m. h.0.before j (omega arith) l m) h.1;
}

pub delimiter_cut : (t prefix delimiter rest : List ℕ) (k : ℕ) → IsDelimiterAt t k → prefix ≡ take (k - 0) t → delimiter ≡ slice_range t k (k + 1) → rest ≡ drop (k + 1) t
    → IsCutAtDelimiter t prefix delimiter rest
delimiter_cut t prefix delimiter rest k h a b d =
    let n : k - 0 ≡ k = omega arith in
    let one : k + 1 - k ≡ 1 = omega arith in
    let s : k + 1 ≡ suc k = omega arith in
    let f : prefix ≡ take k t = a ∙ ap (λ i. take i t) n in
    let l : k < length t = h.inside in
    let m : delimiter ≡ slice_index t k ∷ [] = b ∙ (ap (λ i. take i (drop k t)) one ∙ ap (take 1) (drop-cons t k 0 l)) in
    let r : rest ≡ drop (suc k) t = d ∙ ap (λ i. drop i t) s in
    rw (f, m, r) (record { written = h.written; shorter = grind (arith, common_steps) })
