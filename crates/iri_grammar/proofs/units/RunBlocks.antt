-- Runs of a class, 16 bytes at a time.
use Rattle.iri_grammar.proofs.Common.{◌*◌, prefix_len, get_or-map, length-map, length-drop, take_all, ne_eqb, agree_below, agree_below_at}
use Rattle.iri_grammar.proofs.Common.{is_ascii_unreserved, is_ascii_reg_name, is_ascii_userinfo, is_ascii_pchar, is_ascii_path}
use Rattle.iri_grammar.proofs.Common.{is_ascii_query, is_ascii_any, is_sub_delim, is_gen_delim, ascii_test, rank_of, Class, Unreserved}
use Rattle.iri_grammar.proofs.Common.{RegName, Userinfo, Pchar, Path, Query, Fragment, Any, high_bit, low_bits, row_test, run_of}
use Rattle.std.proofs.Common.{◌≡◌, ℕ, zero, suc, ◌+◌, ◌-◌, ◌/◌, ◌%◌, ◌^◌, ◌<◌, ◌≤◌, Bool, true, false, cond, eqb, List, [], ◌∷◌, map}
use Rattle.std.proofs.Common.{length, take, drop, get_or, replicate, bit_and, ◌≢◌, refl, sym, ap, ap₂, ◌∙◌, arith, w8, Fits}
use Rattle.std.proofs.lemmas.List.{ext_get_or}
use Rattle.std.proofs.lemmas.Nat.{and_le_r}
use Rattle.std.proofs.lemmas.Simd.{Each1-all, Each1-weaker, Each1-zip2, Each2-splat, SwzOk, SwzOk-from_below, below_from_Fits, length-zip2}
use Rattle.std.proofs.lemmas.Simd.{map-map, bitmask_splat, first_set_mask_l, zip2-map, swz_l, length-swz_l, get_or-swz_l_below}
use lib.Count.{count_trailing_zeros}
use lib.Lanes.{zip2, mask_l, top, Each1}
use Rattle.iri_grammar.specs.inside.PlainAuthority.{is_small_name_char}

-- a vector of bytes
abbrev pub IsBlock : List ℕ → Type 0
IsBlock v = (length v ≡ 16) × Each1 (Fits w8) v

-- ---- the rows agree with the classes, by computing
computed : (k : Class) → agree_below (row_test (rank_of k - 48)) (ascii_test k) 256 ≡ true
unfolding is_ascii_unreserved is_ascii_reg_name is_ascii_userinfo is_ascii_pchar is_ascii_path is_ascii_query is_ascii_any is_sub_delim
    is_gen_delim
computed Unreserved = refl
computed RegName = refl
computed Userinfo = refl
computed Pchar = refl
computed Path = refl
computed Query = refl
computed Fragment = refl
computed Any = refl

computed_names : agree_below (row_test 7) is_small_name_char 256 ≡ true
unfolding is_ascii_reg_name is_ascii_unreserved is_sub_delim
computed_names = refl

same_run : (p q : ℕ → Bool) → ((b : ℕ) → b < 256 → p b ≡ q b) → (t : List ℕ) → ((i : ℕ) → Fits w8 (get_or t i 0)) → run_of p t ≡ run_of q t
same_run p q e [] h = refl
same_run p q e (x ∷ xs) h = rw (e x (h 0).fits) (ap (λ n. cond (q x) (suc n) 0) (same_run p q e xs (λ i. h (suc i))))

pub class_run : (k : Class) (t : List ℕ) → ((i : ℕ) → Fits w8 (get_or t i 0)) → run_of (row_test (rank_of k - 48)) t ≡ run_of (ascii_test k) t
class_run k t h = same_run (row_test (rank_of k - 48)) (ascii_test k)
    (λ b. agree_below_at (row_test (rank_of k - 48)) (ascii_test k) 256 b (computed k)) t h

pub name_run : (t : List ℕ) → ((i : ℕ) → Fits w8 (get_or t i 0)) → run_of (row_test 7) t ≡ run_of is_small_name_char t
name_run t h = same_run (row_test 7) is_small_name_char (λ b. agree_below_at (row_test 7) is_small_name_char 256 b computed_names) t h

-- ---- look-ups, lane by lane
lane_fits : (v : List ℕ) (i : ℕ) → Each1 (Fits w8) v → get_or v i 0 < 256
lane_fits [] i h = omega arith
lane_fits (x ∷ xs) zero h = h.0.fits
lane_fits (x ∷ xs) (suc i) h = lane_fits xs i h.1

abbrev pub down : ℕ → ℕ → ℕ
down a b = a / 2 ^ b

pub high_ok : (v : List ℕ) → IsBlock v → SwzOk w8 16 16 0 (zip2 down v (replicate 16 4))
high_ok v fits =
    let small = Each1-weaker (λ a. a < 256) (λ a. a / 16 < 16) (λ a h. omega arith) v (below_from_Fits w8 v fits.1) in
    SwzOk-from_below w8 16 1 16 0 (zip2 down v (replicate 16 4)) refl (omega (arith, length-zip2 down v (replicate 16 4) fits.0))
    (Each1-zip2 down (λ j. j < 16) v (replicate 16 4) (Each2-splat (λ a b. down a b < 16) v 16 4 small))

pub low_ok : (v : List ℕ) → IsBlock v → SwzOk w8 16 16 0 (zip2 bit_and v (replicate 16 15))
low_ok v fits =
    let small = Each1-all (λ a. bit_and a 15 < 16) (λ a. omega (arith, and_le_r a 15)) v in
    SwzOk-from_below w8 16 1 16 0 (zip2 bit_and v (replicate 16 15)) refl (omega (arith, length-zip2 bit_and v (replicate 16 15) fits.0))
    (Each1-zip2 bit_and (λ j. j < 16) v (replicate 16 15) (Each2-splat (λ a b. bit_and a b < 16) v 16 15 small))

-- a table t read at places g x below 16
pub looked_up : (t : List ℕ) (f g : ℕ → ℕ) (v js : List ℕ) → IsBlock v → js ≡ map g v → ((x : ℕ) → x < 256 → g x < 16)
    → ((x : ℕ) → x < 256 → get_or t (g x) 0 ≡ f x) → swz_l w8 16 t 0 js ≡ map f v
looked_up t f g v js fits e small is =
    let long : length js ≡ 16 = ap length e ∙ length-map v g ∙ fits.0 in
    ext_get_or 0 _ _ (length-swz_l w8 16 t 0 js ∙ long ∙ sym (length-map v f ∙ fits.0)) (λ i h.
    let lt : i < 16 = omega (arith, length-swz_l w8 16 t 0 js) in
    let within : i < length v = omega (arith, fits.0) in
    let x = get_or v i 0 in
    let at : get_or js i 0 ≡ g x = ap (λ l. get_or l i 0) e ∙ get_or-map g v i 0 0 within in
    let below : get_or js i 0 < 16 = omega (arith, small x (lane_fits v i fits.1)) in
    let place : 16 * ((0 + i) / 16) + get_or js i 0 ≡ g x = omega arith in
    get_or-swz_l_below w8 16 t 0 js i (omega arith) below
    ∙ ap (λ n. get_or t n 0) place ∙ is x (lane_fits v i fits.1) ∙ sym (get_or-map f v i 0 0 within))

-- ---- the mask of a block
prefix-run : (p : ℕ → Bool) (xs : List ℕ) → prefix_len p xs ≡ run_of p xs
prefix-run p [] = refl
prefix-run p (x ∷ xs) =
    elim (p x) as (λ b. cond b (1 + prefix_len p xs) 0 ≡ cond b (suc (run_of p xs)) 0) [
      | true ↦ omega (arith, prefix-run p xs)
      | false ↦ refl
    ]

abbrev mask_of : List ℕ → ℕ
mask_of v = mask_l (map (top 7) (zip2 (λ a b. cond (eqb a b) 255 0) v (replicate 16 0))) % 2 ^ 64

run-mask : (r : ℕ) (v : List ℕ) → IsBlock v
    → cond (eqb (mask_of (zip2 bit_and (map (low_bits r) v) (map high_bit v))) 0) 16
    (count_trailing_zeros 64 (mask_of (zip2 bit_and (map (low_bits r) v) (map high_bit v)))) ≡ run_of (row_test r) v
run-mask r v fits =
    let m : ℕ → ℕ = λ x. bit_and (low_bits r x) (high_bit x) in
    let same : mask_of (zip2 bit_and (map (low_bits r) v) (map high_bit v)) ≡ mask_l (map (λ x. eqb (m x) 0) v) =
    ap mask_of (zip2-map bit_and (low_bits r) high_bit v)
    ∙ bitmask_splat w8 eqb (map m v) 16 0 (length-map v m ∙ fits.0) (omega arith) ∙ ap mask_l (map-map (λ x. eqb x 0) m v) in
    ap (λ n. cond (eqb n 0) 16 (count_trailing_zeros 64 n)) same
    ∙ first_set_mask_l (λ x. eqb (m x) 0) v 16 fits.0 (omega arith) ∙ prefix-run (row_test r) v

pub none-other : (r : ℕ) (v xs ys : List ℕ) → IsBlock v → xs ≡ map (low_bits r) v → ys ≡ map high_bit v
    → mask_of (zip2 bit_and xs ys) ≡ 0 → 16 ≡ run_of (row_test r) v
none-other r v xs ys fits a b none =
    ap (λ n. cond (eqb n 0) 16 (count_trailing_zeros 64 n)) (sym none ∙ ap₂ (λ l m. mask_of (zip2 bit_and l m)) a b) ∙ run-mask r v fits

pub first-other : (r : ℕ) (v xs ys : List ℕ) → IsBlock v → xs ≡ map (low_bits r) v → ys ≡ map high_bit v
    → mask_of (zip2 bit_and xs ys) ≢ 0 → count_trailing_zeros 64 (mask_of (zip2 bit_and xs ys)) ≡ run_of (row_test r) v
first-other r v xs ys fits a b some =
    let m = mask_of (zip2 bit_and xs ys) in
    let test : eqb m 0 ≡ false = ne_eqb m 0 some in
    ap (λ c. cond c 16 (count_trailing_zeros 64 m)) (sym test)
    ∙ ap (λ n. cond (eqb n 0) 16 (count_trailing_zeros 64 n)) (ap₂ (λ l m. mask_of (zip2 bit_and l m)) a b) ∙ run-mask r v fits

-- ---- runs, part by part
pub run-onward : (p : ℕ → Bool) (t : List ℕ) (i : ℕ) → i ≤ run_of p t → i + run_of p (drop i t) ≡ run_of p t
run-onward p t zero l = omega arith
run-onward p [] (suc i) l = absurd (omega arith)
run-onward p (x ∷ xs) (suc i) l =
    elim (p x) as (λ b. suc i ≤ cond b (suc (run_of p xs)) 0 → suc i + run_of p (drop i xs) ≡ cond b (suc (run_of p xs)) 0) [
      | true ↦ λ h. let r = run-onward p xs i (omega arith) in omega (arith, r)
      | false ↦ λ h. absurd (omega arith)
    ] l

-- a run that ends within the first n bytes, and one that doesn't
pub run-within : (p : ℕ → Bool) (n : ℕ) (t : List ℕ) → run_of p (take n t) < n → run_of p (take n t) ≡ run_of p t
run-within p zero t l = absurd (omega arith)
run-within p (suc n) [] l = refl
run-within p (suc n) (x ∷ xs) l =
    elim (p x) as (λ b. cond b (suc (run_of p (take n xs))) 0 < suc n → cond b (suc (run_of p (take n xs))) 0 ≡ cond b (suc (run_of p xs)) 0) [
      | true ↦ λ h. ap suc (run-within p n xs (omega arith))
      | false ↦ λ h. refl
    ] l

pub run-past : (p : ℕ → Bool) (n : ℕ) (t : List ℕ) → n ≤ run_of p (take n t) → n ≤ run_of p t
run-past p zero t l = omega arith
run-past p (suc n) [] l = absurd (omega arith)
run-past p (suc n) (x ∷ xs) l =
    elim (p x) as (λ b. suc n ≤ cond b (suc (run_of p (take n xs))) 0 → suc n ≤ cond b (suc (run_of p xs)) 0) [
      | true ↦ λ h. let r = run-past p n xs (omega arith) in omega (arith, r)
      | false ↦ λ h. absurd (omega arith)
    ] l

-- ---- one block more, and the last
pub run_ends : (p : ℕ → Bool) (t : List ℕ) (i r : ℕ) → i ≤ run_of p t → r ≡ run_of p (take 16 (drop i t)) → r < 16 → i + r ≡ run_of p t
run_ends p t i r l e short =
    let whole = run-within p 16 (drop i t) (omega (arith, e, short)) in
    omega (arith, e, whole, run-onward p t i l)

pub run_passes : (p : ℕ → Bool) (t : List ℕ) (i r : ℕ) → i ≤ run_of p t → r ≡ run_of p (take 16 (drop i t)) → 16 ≤ r → i + 16 ≤ run_of p t
run_passes p t i r l e long =
    let whole = run-past p 16 (drop i t) (omega (arith, e, long)) in
    omega (arith, whole, run-onward p t i l)

pub run_of_last : (p : ℕ → Bool) (t : List ℕ) (i r : ℕ) → 16 ≤ length t → length t - 16 ≤ i → i ≤ run_of p t
    → r ≡ run_of p (take 16 (drop (length t - 16) t)) → (length t - 16) + r ≡ run_of p t
run_of_last p t i r long at l e =
    let last = length t - 16 in
    let all : take 16 (drop last t) ≡ drop last t = take_all 16 (drop last t) (omega (arith, length-drop last t)) in
    omega (arith, e, ap (run_of p) all, run-onward p t last (omega (arith, at, l)))
