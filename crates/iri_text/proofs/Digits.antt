-- Digits that are written from the last to the first.
use Rattle.std.proofs.Common.{◌≡◌, ℕ, zero, suc, ◌+◌, ◌-◌, ◌/◌, ◌%◌, ◌^◌, ◌<◌, ◌≤◌, List, [], ◌∷◌, ◌++◌, length, take, drop, slice_set}
use Rattle.std.proofs.Common.{decimal, sym, ◌∙◌, ap, arith, append_assoc, set}
use Rattle.std.proofs.lemmas.Fmt.{decimal_step_wide, decimal_digit}
use Rattle.std.proofs.lemmas.List.{drop-set, take_all, length-drop, length-set}

-- a number of at least two digits, below 10 ^ k, loses a place
pub one_place_fewer : (k n : ℕ) → 10 ≤ n → n < 10 ^ k → (1 < k) × (n / 10 < 10 ^ (k - 1))
one_place_fewer zero n h small = absurd (omega arith)
one_place_fewer (suc zero) n h small = absurd (omega arith)
one_place_fewer (suc (suc j)) n h small =
    let left : suc (suc j) - 1 ≡ suc j = omega arith in
    (omega arith, rw left (omega arith))

-- the last digit goes before those that are written
pub digit_more : (n rest at : ℕ) (buf : List ℕ) → 10 ≤ rest → rest < 10 ^ 64 → 0 < at → at < length buf
    → decimal n ≡ decimal rest ++ drop (at + 1) buf
    → decimal n ≡ decimal (rest / 10) ++ drop (at - 1 + 1) (slice_set buf at (48 + rest % 10))
digit_more n rest at buf h small above within so_far =
    let same : at - 1 + 1 ≡ at = omega arith in
    so_far ∙ ap (λ l. l ++ drop (at + 1) buf) (decimal_step_wide rest h small)
    ∙ append_assoc (decimal (rest / 10)) ((48 + rest % 10) ∷ []) (drop (at + 1) buf)
    ∙ ap (λ l. decimal (rest / 10) ++ l) (sym (drop-set buf at (48 + rest % 10) within)
    ∙ ap (λ k. drop k (set buf at (48 + rest % 10))) (sym same))

-- the first digit goes before all others
pub digit_first : (n rest at : ℕ) (buf : List ℕ) → rest < 10 → at < length buf → decimal n ≡ decimal rest ++ drop (at + 1) buf
    → drop at (slice_set buf at (48 + rest)) ≡ decimal n
digit_first n rest at buf h within so_far =
    drop-set buf at (48 + rest) within ∙ sym (so_far ∙ ap (λ l. l ++ drop (at + 1) buf) (decimal_digit rest h))

-- what is shown of the buffer, with no sign and with one
pub digits_shown : (n at : ℕ) (buf : List ℕ) → length buf ≡ 40 → drop at buf ≡ decimal n → take (40 - at) (drop at buf) ≡ decimal n
digits_shown n at buf room digits = take_all (40 - at) (drop at buf) (omega (arith, length-drop at buf, room)) ∙ digits

pub minus_shown : (n at : ℕ) (buf : List ℕ) → length buf ≡ 40 → 0 < at → at ≤ 40 → drop at buf ≡ decimal n
    → take (40 - (at - 1)) (drop (at - 1) (slice_set buf (at - 1) 45)) ≡ 45 ∷ decimal n
minus_shown n at buf room some within digits =
    let same : at - 1 + 1 ≡ at = omega arith in
    let longs : length (set buf (at - 1) 45) ≡ 40 = length-set buf (at - 1) 45 ∙ room in
    take_all (40 - (at - 1)) (drop (at - 1) (set buf (at - 1) 45)) (omega (arith, length-drop (at - 1) (set buf (at - 1) 45), longs))
    ∙ drop-set buf (at - 1) 45 (omega (arith, room, within, some)) ∙ ap (λ l. 45 ∷ l) (ap (λ k. drop k buf) same ∙ digits)
