-- What begins a dot after a slash, looked for in sixteen places at a time.
use Rattle.iri_grammar.proofs.Common.{◌==◌, slice_index, cases_eq, cases_lt, ne_eqb, prefix_len, drop-drop, get_or-map, length-drop}
use Rattle.iri_grammar.proofs.Common.{length-map, zip2_splat, has_slash_and_dot, slash_and_dot}
use Rattle.std.proofs.Common.{◌≡◌, ℕ, zero, suc, ◌+◌, ◌-◌, ◌%◌, ◌^◌, ◌<◌, ◌≤◌, Bool, true, false, cond, not, eqb, ◌&&◌, ◌||◌, List, [], ◌∷◌}
use Rattle.std.proofs.Common.{map, length, take, drop, get_or, replicate, ◌≢◌, refl, sym, ◌∙◌, ap, ap₂, arith, drop-cons, inl, inr, bit_and}
use Rattle.std.proofs.lemmas.Bool.{or_parts}
use Rattle.std.proofs.lemmas.List.Sums.{prefix_len-le-length, prefix_len_passes}
use Rattle.std.proofs.lemmas.Simd.{first_set_mask_l, mask_l-mod, length-zip2, get_or-chunk, get_or-zip2, length-chunk}
use lib.Bits.{bit_or}
use lib.Count.{count_trailing_zeros}
use lib.Lanes.{zip2, mask_l, top}
use Rattle.iri_grammar.specs.Seen.{begins_dot, goes_on_as_dot, may_have_dots}

-- of two bytes side by side, that no slash stands before what begins a dot
abbrev pub begins_plain : ℕ → ℕ → Bool
begins_plain x y = not (x == 47 && (y == 46 || y == 37))

-- a lane that holds the byte has all bits
abbrev pub hit : ℕ → ℕ → ℕ
hit a b = cond (eqb a b) 255 0

-- of a byte, and of the one after it
abbrev pub slash_lane : ℕ → ℕ
slash_lane x = hit x 47

abbrev pub dot_lane : ℕ → ℕ
dot_lane y = bit_or (hit y 46) (hit y 37)

either : (ys : List ℕ) → zip2 bit_or (map (λ y. hit y 46) ys) (map (λ y. hit y 37) ys) ≡ map dot_lane ys
either [] = refl
either (y ∷ ys) = ap (λ r. dot_lane y ∷ r) (either ys)

-- the lanes of sixteen bytes and of those after them
abbrev pub lanes : List ℕ → List ℕ → List ℕ
lanes xs ys = zip2 bit_and (zip2 hit xs (replicate 16 47)) (zip2 bit_or (zip2 hit ys (replicate 16 46)) (zip2 hit ys (replicate 16 37)))

lanes-map : (xs ys : List ℕ) → length xs ≡ 16 → length ys ≡ 16 → lanes xs ys ≡ zip2 bit_and (map slash_lane xs) (map dot_lane ys)
lanes-map xs ys n m =
    ap₂ (zip2 bit_and) (zip2_splat hit xs 16 47 n)
    (ap₂ (zip2 bit_or) (zip2_splat hit ys 16 46 m) (zip2_splat hit ys 16 37 m) ∙ either ys)

one_lane : (a b c : Bool) → top 7 (bit_and (cond a 255 0) (bit_or (cond b 255 0) (cond c 255 0))) ≡ (a && (b || c))
one_lane true true true = refl
one_lane true true false = refl
one_lane true false true = refl
one_lane true false false = refl
one_lane false true true = refl
one_lane false true false = refl
one_lane false false true = refl
one_lane false false false = refl

-- the first lane that is set of sixteen, or 16
abbrev pub first : ℕ → ℕ
first m = cond (eqb m 0) 16 (count_trailing_zeros 64 m)

pub first-none : (m : ℕ) → m ≡ 0 → 16 ≡ first m
first-none m e = ap first (sym e)

pub first-some : (m : ℕ) → m ≢ 0 → count_trailing_zeros 64 m ≡ first m
first-some m e = ap (λ c. cond c 16 (count_trailing_zeros 64 m)) (sym (ne_eqb m 0 e))

abbrev pub mask : List ℕ → List ℕ → ℕ
mask xs ys = mask_l (map (top 7) (lanes xs ys)) % 2 ^ 64

abbrev pair_lanes : List ℕ → List ℕ → List ℕ
pair_lanes xs ys = zip2 bit_and (map slash_lane xs) (map dot_lane ys)

pair-long : (xs ys : List ℕ) → length xs ≡ 16 → length ys ≡ 16 → length (pair_lanes xs ys) ≡ 16
pair-long xs ys n m =
    length-zip2 bit_and (map slash_lane xs) (map dot_lane ys) (length-map xs slash_lane ∙ (n ∙ sym (length-map ys dot_lane ∙ m)))
    ∙ (length-map xs slash_lane ∙ n)

first-lane : (xs ys : List ℕ) → length xs ≡ 16 → length ys ≡ 16
    → first (mask xs ys) ≡ prefix_len (λ x. not (top 7 x)) (pair_lanes xs ys)
first-lane xs ys n m =
    let l = pair_lanes xs ys in
    let long = pair-long xs ys n m in
    ap first (ap (λ l. mask_l (map (top 7) l) % 2 ^ 64) (lanes-map xs ys n m)
    ∙ mask_l-mod (map (top 7) l) 64 (omega (arith, length-map l (top 7), long)))
    ∙ first_set_mask_l (top 7) l 16 long (omega arith)

pub first-within : (xs ys : List ℕ) → length xs ≡ 16 → length ys ≡ 16 → first (mask xs ys) ≤ 16
first-within xs ys n m =
    omega (arith, first-lane xs ys n m, pair-long xs ys n m, prefix_len-le-length (λ x. not (top 7 x)) (pair_lanes xs ys))

none-first : (xs ys : List ℕ) → length xs ≡ 16 → length ys ≡ 16 → (k : ℕ) → k < first (mask xs ys)
    → begins_plain (get_or xs k 0) (get_or ys k 0) ≡ true
none-first xs ys n m k l =
    let x = get_or xs k 0 in
    let y = get_or ys k 0 in
    let low : k < 16 = omega (arith, l, first-within xs ys n m) in
    let left : k < length (map slash_lane xs) = omega (arith, length-map xs slash_lane, n) in
    let right : k < length (map dot_lane ys) = omega (arith, length-map ys dot_lane, m) in
    let at : get_or (pair_lanes xs ys) k 0 ≡ bit_and (slash_lane x) (dot_lane y) =
    get_or-zip2 bit_and (map slash_lane xs) (map dot_lane ys) k 0 0 0 left right
    ∙ ap₂ bit_and (get_or-map slash_lane xs k 0 0 (omega (arith, n))) (get_or-map dot_lane ys k 0 0 (omega (arith, m))) in
    let unset = prefix_len_passes (λ x. not (top 7 x)) (pair_lanes xs ys) k 0 (omega (arith, l, first-lane xs ys n m)) in
    sym (ap (λ v. not (top 7 v)) at ∙ ap not (one_lane (x == 47) (y == 46) (y == 37))) ∙ unset

-- ---- none in sixteen places
plain_pair : (x y : ℕ) (xs : List ℕ) → begins_plain x y ≡ true → slash_and_dot (x ∷ y ∷ xs) ≡ false
plain_pair x y xs h = no_pair (x == 47) (y == 46) (y == 37) (goes_on_as_dot xs) h
  where
    no_pair : (a b c d : Bool) → not (a && (b || c)) ≡ true → (a && (b || c && d)) ≡ false
    no_pair true true c d h = cc
    no_pair true false true d h = cc
    no_pair true false false d h = refl
    no_pair false b c d h = refl

-- sixteen bytes, and those one place further
abbrev pub mask_at : List ℕ → ℕ → ℕ
mask_at t i = mask (take 16 (drop (i - 1) t)) (take 16 (drop i t))

pub near-within : (t : List ℕ) (i r : ℕ) → 1 ≤ i → i + 16 ≤ length t → r ≡ first (mask_at t i) → r ≤ 16
near-within t i r low n e =
    omega (
      arith,
      e,
      first-within (take 16 (drop (i - 1) t)) (take 16 (drop i t)) (length-chunk (i - 1) 16 t (omega arith)) (length-chunk i 16 t (omega arith)),
    )

pub none-near : (t : List ℕ) (i r : ℕ) → 1 ≤ i → i + 16 ≤ length t → r ≡ first (mask_at t i)
    → (k : ℕ) → k < r → slash_and_dot (drop (i - 1 + k) t) ≡ false
none-near t i r low n e k l =
    let at = i - 1 + k in
    let x = slice_index t at in
    let y = slice_index t (suc at) in
    let few : k < 16 = omega (arith, l, near-within t i r low n e) in
    let found = none-first (take 16 (drop (i - 1) t)) (take 16 (drop i t)) (length-chunk (i - 1) 16 t (omega arith)) (length-chunk i 16 t (omega arith))
    k (omega (arith, l, e)) in
    let place : suc at ≡ i + k = omega arith in
    let plain : begins_plain x y ≡ true = sym (ap₂ begins_plain (get_or-chunk (i - 1) 16 t k 0 few)
    (get_or-chunk i 16 t k 0 few ∙ ap (slice_index t) (sym place))) ∙ found in
    let first : drop at t ≡ x ∷ drop (suc at) t = drop-cons t at 0 (omega arith) in
    let second : drop (suc at) t ≡ y ∷ drop (suc (suc at)) t = drop-cons t (suc at) 0 (omega arith) in
    ap slash_and_dot (first ∙ ap (λ l. x ∷ l) second) ∙ plain_pair x y (drop (suc (suc at)) t) plain

-- ---- none in the whole
pub none-at : (t : List ℕ) → ((k : ℕ) → k < length t → slash_and_dot (drop k t) ≡ false) → has_slash_and_dot t ≡ false
none-at [] h = refl
none-at (x ∷ xs) h = rw (h 0 (omega arith)) (none-at xs (λ k l. h (suc k) (omega arith)))

-- and in each place of a part that has none
lacking : (t : List ℕ) → has_slash_and_dot t ≡ false → (k : ℕ) → k < length t → slash_and_dot (drop k t) ≡ false
lacking [] h k l = absurd (omega arith)
lacking (x ∷ xs) h zero l = (or_parts (slash_and_dot (x ∷ xs)) (has_slash_and_dot xs) h).0
lacking (x ∷ xs) h (suc k) l = lacking xs (or_parts (slash_and_dot (x ∷ xs)) (has_slash_and_dot xs) h).1 k (omega arith)

pub none-onward : (t : List ℕ) (j k : ℕ) → has_slash_and_dot (drop j t) ≡ false → j ≤ k → k < length t → slash_and_dot (drop k t) ≡ false
none-onward t j k h le l =
    sym (ap slash_and_dot (drop-drop (k - j) j t ∙ ap (λ n. drop n t) (omega arith))) ∙ lacking (drop j t) h (k - j) (omega (arith, length-drop j t))

-- none before a place, and none in r places from the one before it
pub none-passed : (t : List ℕ) (i r : ℕ) → 1 ≤ i → ((k : ℕ) → k + 1 < i → slash_and_dot (drop k t) ≡ false)
    → ((k : ℕ) → k < r → slash_and_dot (drop (i - 1 + k) t) ≡ false) → (k : ℕ) → k < i - 1 + r → slash_and_dot (drop k t) ≡ false
none-passed t i r low before near k l = elim (cases_lt (k + 1) i) [
  | inl lt ↦ before k lt
  | inr ge ↦
      let place : i - 1 + (k - (i - 1)) ≡ k = omega arith in
      sym (ap (λ n. slash_and_dot (drop n t)) place) ∙ near (k - (i - 1)) (omega arith)
]

last_alone : (t : List ℕ) (k : ℕ) → suc k ≡ length t → slash_and_dot (drop k t) ≡ false
last_alone [] k e = absurd (omega (arith, e))
last_alone (x ∷ []) zero e = elim (x == 47) as (λ b. (b && false) ≡ false) [ true ↦ refl | false ↦ refl ]
last_alone (x ∷ y ∷ xs) zero e = absurd (omega (arith, e))
last_alone (x ∷ xs) (suc k) e = last_alone xs k (omega (arith, e))

-- no slash at the end is before a dot
none-before : (t : List ℕ) → ((k : ℕ) → k + 1 < length t → slash_and_dot (drop k t) ≡ false) → has_slash_and_dot t ≡ false
none-before t h = none-at t (λ k l. elim (cases_eq (suc k) (length t)) [
  | inl same ↦ last_alone t k same
  | inr other ↦ h k (omega (arith, other, l))
])

pub none_in_short : (t : List ℕ) → begins_dot t ≡ false → has_slash_and_dot t ≡ false → may_have_dots t ≡ false
none_in_short t b h = rw (b, h) refl

pub none_in_long : (t : List ℕ) → begins_dot t ≡ false → ((k : ℕ) → k + 1 < length t → slash_and_dot (drop k t) ≡ false)
    → may_have_dots t ≡ false
none_in_long t b h = none_in_short t b (none-before t h)
