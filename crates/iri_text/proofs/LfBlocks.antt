-- LFs, looked for in 16 bytes at a time.
use Rattle.std.proofs.Common.{◌≡◌, ◌≢◌, ℕ, ◌+◌, ◌*◌, ◌<◌, ◌≤◌, ◌%◌, ◌^◌, Bool, true, false, not, cond, eqb, List, [], ◌∷◌, length, map, replicate, None, Some}
use Rattle.std.proofs.Common.{get_or, take, slice_range, ap, arith, eqb-true, refl, sym, subst, ◌∙◌, w8}
use Rattle.std.specs.List.{prefix_len}
use Rattle.std.proofs.lemmas.Bool.{eqb-false, not-true, not-false}
use Rattle.std.proofs.lemmas.List.Sums.{prefix_len_passes, prefix_len_stops}
use Rattle.std.proofs.lemmas.Simd.{bitmask_splat, leading_from_mask_l, trailing_mask_l}
use lib.Count.{count_trailing_zeros}
use lib.Lanes.{mask_l, top, zip2}
use Rattle.memchr.specs.Find.{IsFirstByte, Nowhere, Passes, is_byte}
use Rattle.iri_text.specs.Lines.{NoLf}
use Rattle.iri_text.specs.inside.Layout.{IsFirstLf}
use Rattle.iri_text.proofs.Parts.{found, NoLf-further}

abbrev mask_of : List ℕ → ℕ
mask_of v = mask_l (map (top 7) (zip2 (λ a b. cond (eqb a b) 255 0) v (replicate 16 10))) % 2 ^ 64

-- how many bytes come before the first LF
abbrev run_of : List ℕ → ℕ
run_of v = prefix_len (λ b. not (eqb b 10)) v

mask_is : (v : List ℕ) → length v ≡ 16 → mask_of v ≡ mask_l (map (λ b. eqb b 10) v)
mask_is v long = bitmask_splat w8 eqb v 16 10 long (omega arith)

before : (v : List ℕ) (n : ℕ) → n ≡ run_of v → Nowhere (Passes (is_byte 10) v) 0 n
before v n e = λ k from to is.
    eqb-false (get_or v k 0) 10 (not-true _ (prefix_len_passes (λ b. not (eqb b 10)) v k 0 (omega (arith, e, to)))) (eqb-true _ _ is)

here_or_later : (b : Bool) (n t m : ℕ) → cond b 1 0 + 2 * n ≢ 0 → (n ≢ 0 → t < m) → cond (not b) (1 + t) 0 < 1 + m
here_or_later true n t m some f = omega arith
here_or_later false n t m some f = omega (arith, f (λ e. some (omega (arith, e))))

-- a byte that is marked is one of them
run_short : (v : List ℕ) → mask_l (map (λ b. eqb b 10) v) ≢ 0 → run_of v < length v
run_short [] some = absurd (some refl)
run_short (b ∷ v) some =
    omega (arith, here_or_later (eqb b 10) (mask_l (map (λ b. eqb b 10) v)) (run_of v) (length v) some (run_short v))

pub none_marked : (v w : List ℕ) → v ≡ w → length v ≡ 16 → mask_of v ≡ 0 → IsFirstByte (is_byte 10) w None
none_marked v w same long none = subst (λ u. IsFirstByte (is_byte 10) u None) same
    (before v (length v) (sym (leading_from_mask_l (λ b. eqb b 10) v (sym (mask_is v long) ∙ none))))

pub first_marked : (v w : List ℕ) → v ≡ w → length v ≡ 16 → mask_of v ≢ 0 → IsFirstByte (is_byte 10) w (Some (count_trailing_zeros 64 (mask_of v)))
first_marked v w same long some =
    let short = run_short v (λ none. some (mask_is v long ∙ none)) in
    let n = count_trailing_zeros 64 (mask_of v) in
    let e : n ≡ run_of v =
    ap (λ m. count_trailing_zeros 64 m) (mask_is v long) ∙ trailing_mask_l (λ b. eqb b 10) 64 v (omega (arith, long)) (omega (arith, mask_is v long, some)) in
    subst (λ u. IsFirstByte (is_byte 10) u (Some n)) same (
      record { low = omega arith; high = omega (arith, e, short); before = before v n e },
      subst (λ m. Passes (is_byte 10) v m) (sym e) (not-false _ (prefix_len_stops (λ b. not (eqb b 10)) v 0 short)),
    )

-- the first LF, where there is none before a place and this is the first one after it
pub first_after : (t : List ℕ) (a b k : ℕ) → a ≤ b → b ≤ length t → NoLf (take a t) → IsFirstByte (is_byte 10) (slice_range t a b) (Some k)
    → IsFirstLf t (a + k)
first_after t a b k h room none is =
    let f = found t a b (Some k) h room is in
    record { within = omega (arith, room, f.0); no_lf = NoLf-further t a (a + k) (omega arith) none f.1; found = λ _. f.2 }

pub none_after : (t : List ℕ) (a b : ℕ) → a ≤ b → b ≤ length t → NoLf (take a t) → IsFirstByte (is_byte 10) (slice_range t a b) None
    → NoLf (take b t)
none_after t a b h room none is = NoLf-further t a b h none (found t a b None h room is)
