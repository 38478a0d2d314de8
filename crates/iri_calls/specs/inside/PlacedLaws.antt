-- Lists written over a buffer one after the other are written as one.
use Rattle.std.specs.Prelude.{◌≡◌, ◌<◌, ◌≤◌, ◌+◌, ℕ, zero, suc, List, [], ◌∷◌, ◌++◌, length, take, drop, refl}
use Rattle.std.proofs.Common.{ap, ◌∙◌, arith}
use Rattle.iri_calls.specs.Buffers.{over}
use Rattle.iri_calls.specs.inside.Placed.{over_at}

over-nothing : {A : Type 0} (t : List A) → over t [] ≡ []
unfolding over
over-nothing [] = refl
over-nothing (x ∷ t) = refl

pub over_at-none : {A : Type 0} (n : ℕ) (buf : List A) → over_at n [] buf ≡ buf
unfolding over_at over
over_at-none zero buf = refl
over_at-none (suc n) [] = refl
over_at-none (suc n) (y ∷ buf) = ap (λ l. y ∷ l) (over_at-none n buf)

pub over-both : {A : Type 0} (t u buf : List A) → over_at (length t) u (over t buf) ≡ over (t ++ u) buf
unfolding over_at over
over-both [] u buf = refl
over-both (x ∷ t) u [] = refl
over-both (x ∷ t) u (y ∷ buf) = ap (λ l. x ∷ l) (over-both t u buf)

pub over_at-both : {A : Type 0} (n m : ℕ) (t u buf : List A) → m ≡ n + length t → over_at m u (over_at n t buf) ≡ over_at n (t ++ u) buf
unfolding over_at
over_at-both zero m t u buf e =
    ap (λ k. over_at k u (over t buf)) (let k : m ≡ length t = omega (arith, e) in k) ∙ over-both t u buf
over_at-both (suc n) zero t u buf e = absurd (omega (arith, e))
over_at-both (suc n) (suc m) t u [] e = refl
over_at-both (suc n) (suc m) t u (y ∷ buf) e = ap (λ l. y ∷ l) (over_at-both n m t u buf (omega (arith, e)))

-- where the buffer ends within the first, the second changes nothing
pub over-long : {A : Type 0} (t u buf : List A) → length buf ≤ length t → over (t ++ u) buf ≡ over t buf
unfolding over
over-long [] u [] h = over-nothing u
over-long [] u (y ∷ buf) h = absurd (omega arith)
over-long (x ∷ t) u [] h = refl
over-long (x ∷ t) u (y ∷ buf) h = ap (λ l. x ∷ l) (over-long t u buf (omega arith))

pub over_at-long : {A : Type 0} (n : ℕ) (t u buf : List A) → length buf ≤ n + length t → over_at n (t ++ u) buf ≡ over_at n t buf
unfolding over_at
over_at-long zero t u buf h = over-long t u buf (omega arith)
over_at-long (suc n) t u [] h = refl
over_at-long (suc n) t u (y ∷ buf) h = ap (λ l. y ∷ l) (over_at-long n t u buf (omega arith))

length-over : {A : Type 0} (t buf : List A) → length (over t buf) ≡ length buf
unfolding over
length-over [] buf = refl
length-over (x ∷ t) [] = refl
length-over (x ∷ t) (y ∷ buf) = omega (arith, length-over t buf)

pub length-over_at : {A : Type 0} (n : ℕ) (t buf : List A) → length (over_at n t buf) ≡ length buf
unfolding over_at
length-over_at zero t buf = length-over t buf
length-over_at (suc n) t [] = refl
length-over_at (suc n) t (y ∷ buf) = omega (arith, length-over_at n t buf)

-- so many members of the list as there is room for, and the rest of the buffer
over-mid : {A : Type 0} (k : ℕ) (t buf : List A) → k ≤ length t → k ≤ length buf → (k < length t → length buf ≤ k)
    → take k t ++ drop k buf ≡ over t buf
unfolding over
over-mid zero [] buf h i j = refl
over-mid zero (x ∷ t) [] h i j = refl
over-mid zero (x ∷ t) (y ∷ buf) h i j = absurd (omega (arith, j (omega arith)))
over-mid (suc k) [] buf h i j = absurd (omega arith)
over-mid (suc k) (x ∷ t) [] h i j = absurd (omega arith)
over-mid (suc k) (x ∷ t) (y ∷ buf) h i j =
    ap (λ l. x ∷ l) (over-mid k t buf (omega arith) (omega arith) (λ l. omega (arith, j (omega arith))))

pub over_at-mid : {A : Type 0} (n k : ℕ) (t buf : List A) → n + k ≤ length buf → k ≤ length t → (k < length t → length buf ≤ n + k)
    → take n buf ++ (take k t ++ drop k (drop n buf)) ≡ over_at n t buf
unfolding over_at
over_at-mid zero k t buf h i j = over-mid k t buf i (omega arith) (λ l. omega (arith, j l))
over_at-mid (suc n) k t [] h i j = absurd (omega arith)
over_at-mid (suc n) k t (y ∷ buf) h i j = ap (λ l. y ∷ l) (over_at-mid n k t buf (omega arith) i (λ l. omega (arith, j l)))

pub over_at_start : {A : Type 0} (n : ℕ) (t buf : List A) → n ≡ 0 → over_at n t buf ≡ over t buf
unfolding over_at
over_at_start zero t buf e = refl
over_at_start (suc n) t buf e = absurd (omega (arith, e))

pub over_at-past : {A : Type 0} (n : ℕ) (t buf : List A) → length buf ≤ n → over_at n t buf ≡ buf
unfolding over_at
over_at-past zero t [] h = over-nothing t
over_at-past zero t (y ∷ buf) h = absurd (omega arith)
over_at-past (suc n) t [] h = refl
over_at-past (suc n) t (y ∷ buf) h = ap (λ l. y ∷ l) (over_at-past n t buf (omega arith))
