-- A run at the start of a text.
use Rattle.iri_link.proofs.Common.{◌==◌, ◌≤◌, ◌-◌, ◌∙◌, ◌++◌, ◌&&◌, not, sym, length, is_pair_char, is_plain_char, inl, inr, by_test, first_passes, ◌≡◌, ℕ, zero, suc, ◌<◌, Bool, true, false, cond, List, [], ◌∷◌, take, drop, refl, ap, arith, slice_index}
use Rattle.iri_link.proofs.Common.{list_all, IsUtf8, IsCharBoundary, nat_tests, run_of, both, is_blank, is_token_char, run_test, IsRun}
use Rattle.std.proofs.lemmas.Str.{IsUtf8-from_ascii, IsCharBoundary-from_take}
use Rattle.std.proofs.Common.{◌⊎◌}
use Rattle.iri_grammar.proofs.units.FirstUnits.{run_of_le}
use Rattle.iri_grammar.specs.Parts.{is_empty}
use Rattle.iri_link.specs.LaxReadings.{is_name_char, is_value_char}
use Rattle.iri_link.specs.inside.Pieces.{without_end}
use Rattle.iri_link.specs.declared.runs.Run.{Run}
use Rattle.iri_link.specs.declared.runs.Run.TheVariants.{Blank, Token, Name, Value, Pair, Plain, Lower}
use Rattle.std.specs.Char.{is_ascii_lowercase}

pub when : (b : Bool) (P : Type 0) → (b ≡ true → P) → (b ≡ false → P) → P
when b P on off = elim b as (λ v. b ≡ v → P) [ true ↦ on | false ↦ off ] refl

pub run-is : (p : ℕ → Bool) (t : List ℕ) → IsRun p t (take (run_of p t) t) (drop (run_of p t) t)
run-is p [] = record { whole = refl; all = refl; ends = refl }
run-is p (c ∷ cs) =
    elim (p c) as (λ b. p c ≡ b → IsRun p (c ∷ cs) (take (cond b (suc (run_of p cs)) 0) (c ∷ cs)) (drop (cond b (suc (run_of p cs)) 0) (c ∷ cs))) [
      | true ↦ λ e. let h = run-is p cs in record { whole = ap (λ l. c ∷ l) h.whole; all = rw e h.all; ends = h.ends }
      | false ↦ λ e. record { whole = refl; all = refl; ends = e }
    ] refl

pub blank-low : (c : ℕ) → is_blank c ≡ true → c < 128
blank-low c h = grind (arith, nat_tests)

pub token-low : (c : ℕ) → is_token_char c ≡ true → c < 128
token-low c h = grind (arith, nat_tests)

pub all-at : (p : ℕ → Bool) → ((c : ℕ) → p c ≡ true → c < 128) → (xs : List ℕ) → list_all p xs ≡ true → (i : ℕ) → slice_index xs i < 128
all-at p low [] h i = omega arith
all-at p low (c ∷ cs) h zero = low c (both (p c) (list_all p cs) h).0
all-at p low (c ∷ cs) h (suc i) = all-at p low cs (both (p c) (list_all p cs) h).1 i

low-boundary : (p : ℕ → Bool) → ((c : ℕ) → p c ≡ true → c < 128) → (t : List ℕ) → IsUtf8 t → IsCharBoundary t (run_of p t)
low-boundary p low t u =
    IsCharBoundary-from_take t (run_of p t) u (run_of_le p t) (IsUtf8-from_ascii (take (run_of p t) t) (all-at p low (take (run_of p t) t) (run-is p t).all))

-- where a run stops
run-stops : (p : ℕ → Bool) (t : List ℕ) → run_of p t < length t → p (slice_index t (run_of p t)) ≡ false
run-stops p [] h = absurd (omega (arith, h))
run-stops p (c ∷ cs) h =
    elim (p c) as (λ b. p c ≡ b → cond b (suc (run_of p cs)) 0 < length (c ∷ cs) → p (slice_index (c ∷ cs) (cond b (suc (run_of p cs)) 0)) ≡ false) [
      | true ↦ λ e k. run-stops p cs (omega (arith, k))
      | false ↦ λ e k. e
    ] refl h

stop-boundary : (p : ℕ → Bool) → ((c : ℕ) → p c ≡ false → c < 128) → (t : List ℕ) → IsCharBoundary t (run_of p t)
stop-boundary p low t = (run_of_le p t, λ inside high. absurd (omega (arith, low (slice_index t (run_of p t)) (run-stops p t inside), high)))

name-low : (c : ℕ) → is_name_char c ≡ false → c < 128
name-low c h = grind (arith, nat_tests)

value-low : (c : ℕ) → is_value_char c ≡ false → c < 128
value-low c h = grind (arith, nat_tests)

pair-low : (c : ℕ) → is_pair_char c ≡ false → c < 128
pair-low c h = grind (arith, nat_tests)

plain-low : (c : ℕ) → is_plain_char c ≡ false → c < 128
plain-low c h = grind (arith, nat_tests)

lower-low : (c : ℕ) → is_ascii_lowercase c ≡ true → c < 128
lower-low c h = grind (arith, nat_tests)

pub run-boundary : (k : Run) (t : List ℕ) → IsUtf8 t → IsCharBoundary t (run_of (run_test k) t)
run-boundary Blank t u = low-boundary is_blank blank-low t u
run-boundary Token t u = low-boundary is_token_char token-low t u
run-boundary Name t u = stop-boundary is_name_char name-low t
run-boundary Value t u = stop-boundary is_value_char value-low t
run-boundary Pair t u = stop-boundary is_pair_char pair-low t
run-boundary Plain t u = stop-boundary is_plain_char plain-low t
run-boundary Lower t u = low-boundary is_ascii_lowercase lower-low t u

-- ---- blanks at the end
not_empty : (xs : List ℕ) (c : ℕ) → is_empty (xs ++ c ∷ []) ≡ false
not_empty [] c = refl
not_empty (x ∷ xs) c = refl

-- a last byte goes where it is a blank, and ends the text where it is none
at_last : (xs : List ℕ) (c : ℕ) → without_end (xs ++ c ∷ []) ≡ cond (is_blank c) (without_end xs) (xs ++ c ∷ [])
at_last [] c = when (is_blank c) _ (λ h. rw h refl) (λ h. rw h refl)
at_last (x ∷ xs) c =
    ap (λ w. cond (not (is_blank x && is_empty w)) (x ∷ w) w) (at_last xs c)
    ∙ when (is_blank c) _ (λ h. rw h refl) (λ h. rw (h, not_empty xs c)
    (when (is_blank x) (cond (not (is_blank x && false)) (x ∷ (xs ++ c ∷ [])) (xs ++ c ∷ []) ≡ x ∷ (xs ++ c ∷ [])) (λ k. rw k refl) (λ k. rw k refl)))

grows : (t : List ℕ) (m : ℕ) → m < length t → take (suc m) t ≡ take m t ++ slice_index t m ∷ []
grows [] m h = absurd (omega (arith, h))
grows (c ∷ cs) zero h = refl
grows (c ∷ cs) (suc m) h = ap (λ l. c ∷ l) (grows cs m (omega (arith, h)))

last_at : (t : List ℕ) (n : ℕ) → 0 < n → n ≤ length t → take n t ≡ take (n - 1) t ++ slice_index t (n - 1) ∷ []
last_at t n a b = let e : n ≡ suc (n - 1) = omega (arith, a) in ap (λ k. take k t) e ∙ grows t (n - 1) (omega (arith, a, b))

-- the last byte of a prefix is a blank, or not
pub end_blank : (t : List ℕ) (n : ℕ) → 0 < n → n ≤ length t → is_blank (slice_index t (n - 1)) ≡ true → without_end (take n t) ≡ without_end (take (n - 1) t)
end_blank t n a b h =
    let xs = take (n - 1) t in
    let c = slice_index t (n - 1) in
    ap without_end (last_at t n a b) ∙ at_last xs c ∙ ap (λ k. cond k (without_end xs) (xs ++ c ∷ [])) h

pub end_text : (t : List ℕ) (n : ℕ) → 0 < n → n ≤ length t → is_blank (slice_index t (n - 1)) ≡ false → take n t ≡ without_end (take n t)
end_text t n a b h =
    let xs = take (n - 1) t in
    let c = slice_index t (n - 1) in
    let e = last_at t n a b in
    e ∙ (sym (at_last xs c ∙ ap (λ k. cond k (without_end xs) (xs ++ c ∷ [])) h) ∙ ap without_end (sym e))

-- ---- tests
-- whether m comes first
pub mark : (m : ℕ) (t : List ℕ) → (first_passes (λ c. c == m) t ≡ false) ⊎ ((r : List ℕ) × (t ≡ m ∷ r))
mark m [] = inl refl
mark m (c ∷ cs) =
    by_test c m (λ b. (b ≡ false) ⊎ ((r : List ℕ) × (c ∷ cs ≡ m ∷ r))) (λ e. inr (cs, ap (λ d. d ∷ cs) e)) (λ _. inl refl)
