-- Laws of cutting at a delimiter.
use Rattle.iri_grammar.proofs.Common.{◌≡◌, ℕ, ◌≢◌, Bool, true, false, cond, not, ◌&&◌, List, [], ◌∷◌, ◌++◌, Option, Some, None, refl, sym}
use Rattle.iri_grammar.proofs.Common.{◌∙◌, ap, subst, arith, ◌==◌, list_all, nat_tests, before, from, after, lacks, delimited}
pub use Rattle.std.proofs.lemmas.Bool.{and_parts as both}

-- ---- tests
pub by_test : (x c : ℕ) (P : Bool → Type 0) → (x ≡ c → P true) → (x ≢ c → P false) → P (x == c)
by_test x c P same other =
    elim (x == c) as (λ b. (x == c) ≡ b → P b) [
      | true ↦ λ e. let s : x ≡ c = grind (arith, nat_tests) in same s
      | false ↦ λ e. let o : x ≢ c = grind (arith, nat_tests) in other o
    ] refl

pub and_three : (a b c : Bool) → (a && b && c) ≡ true → (a ≡ true) × (b ≡ true) × (c ≡ true)
and_three a b c h =
    let last = both (a && b) c h in
    let first = both a b last.0 in
    (first.0, first.1, last.1)

-- ---- cutting
pub joined : (c : ℕ) (t : List ℕ) → before c t ++ delimited c (after c t) ≡ t
joined c [] = refl
joined c (x ∷ xs) =
    by_test x c (λ b. cond b [] (x ∷ before c xs) ++ delimited c (cond b (Some xs) (after c xs)) ≡ x ∷ xs) (λ e. ap (λ n. n ∷ xs) (sym e))
    (λ _. ap (λ ys. x ∷ ys) (joined c xs))

pub joined_from : (c : ℕ) (t : List ℕ) → before c t ++ from c t ≡ t
joined_from c [] = refl
joined_from c (x ∷ xs) = by_test x c (λ b. cond b [] (x ∷ before c xs) ++ cond b (x ∷ xs) (from c xs) ≡ x ∷ xs) (λ _. refl)
    (λ _. ap (λ ys. x ∷ ys) (joined_from c xs))

pub before-delimited : (c : ℕ) (xs : List ℕ) (o : Option (List ℕ)) → lacks c xs ≡ true → before c (xs ++ delimited c o) ≡ xs
before-delimited c [] None h = refl
before-delimited c [] (Some ys) h = by_test c c (λ b. cond b [] (c ∷ before c ys) ≡ []) (λ _. refl) (λ ne. absurd (ne refl))
before-delimited c (x ∷ xs) o h =
    by_test x c (λ b. (not b && lacks c xs) ≡ true → cond b [] (x ∷ before c (xs ++ delimited c o)) ≡ x ∷ xs) (λ _ k. cc)
    (λ _ k. ap (λ ys. x ∷ ys) (before-delimited c xs o k)) h

pub after-delimited : (c : ℕ) (xs : List ℕ) (o : Option (List ℕ)) → lacks c xs ≡ true → after c (xs ++ delimited c o) ≡ o
after-delimited c [] None h = refl
after-delimited c [] (Some ys) h = by_test c c (λ b. cond b (Some ys) (after c ys) ≡ Some ys) (λ _. refl) (λ ne. absurd (ne refl))
after-delimited c (x ∷ xs) o h =
    by_test x c (λ b. (not b && lacks c xs) ≡ true → cond b (Some (xs ++ delimited c o)) (after c (xs ++ delimited c o)) ≡ o) (λ _ k. cc)
    (λ _ k. after-delimited c xs o k) h

-- before and from, where what follows is nothing or begins with c
pub before-at : (c : ℕ) (xs ys : List ℕ) → lacks c xs ≡ true → before c ys ≡ [] → before c (xs ++ ys) ≡ xs
before-at c [] ys h k = k
before-at c (x ∷ xs) ys h k = by_test x c (λ b. (not b && lacks c xs) ≡ true → cond b [] (x ∷ before c (xs ++ ys)) ≡ x ∷ xs) (λ _ l. cc)
    (λ _ l. ap (λ zs. x ∷ zs) (before-at c xs ys l k)) h

pub from-at : (c : ℕ) (xs ys : List ℕ) → lacks c xs ≡ true → from c ys ≡ ys → from c (xs ++ ys) ≡ ys
from-at c [] ys h k = k
from-at c (x ∷ xs) ys h k = by_test x c (λ b. (not b && lacks c xs) ≡ true → cond b (x ∷ (xs ++ ys)) (from c (xs ++ ys)) ≡ ys) (λ _ l. cc)
    (λ _ l. from-at c xs ys l k) h

pub lacks-append : (c : ℕ) (xs ys : List ℕ) → lacks c xs ≡ true → lacks c ys ≡ true → lacks c (xs ++ ys) ≡ true
lacks-append c [] ys h k = k
lacks-append c (x ∷ xs) ys h k = by_test x c (λ b. (not b && lacks c xs) ≡ true → (not b && lacks c (xs ++ ys)) ≡ true) (λ _ l. l)
    (λ _ l. lacks-append c xs ys l k) h

pub lacks-other : (c x : ℕ) (xs : List ℕ) → (x == c) ≡ false → lacks c xs ≡ true → lacks c (x ∷ xs) ≡ true
lacks-other c x xs h k = subst (λ b. (not b && lacks c xs) ≡ true) (sym h) k

-- a test that fails at c
pub test_apart : (p : ℕ → Bool) (c x : ℕ) → p c ≡ false → p x ≡ true → (x == c) ≡ false
test_apart p c x h k = by_test x c (λ b. b ≡ false) (λ e. let f : p x ≡ false = ap p e ∙ h in cc) (λ _. refl)

-- a text whose bytes pass a test that c fails
pub all-lacks : (p : ℕ → Bool) (c : ℕ) (xs : List ℕ) → p c ≡ false → list_all p xs ≡ true → lacks c xs ≡ true
all-lacks p c [] n h = refl
all-lacks p c (x ∷ xs) n h = let k = both (p x) (list_all p xs) h in lacks-other c x xs (test_apart p c x n k.0) (all-lacks p c xs n k.1)
