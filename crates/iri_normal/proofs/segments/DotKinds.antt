-- The segments of a path, and which are dot segments.
use Rattle.iri_normal.proofs.Common.{◌≡◌, ℕ, Bool, true, false, cond, not, ◌&&◌, ◌||◌, List, [], ◌∷◌, ◌++◌, Option, Some, None, refl, sym}
use Rattle.iri_normal.proofs.Common.{◌∙◌, ap, subst, arith, ◌==◌, nat_tests, or-false, lacks, by_test, both, pieces, onto, after_dot}
use Rattle.iri_normal.proofs.Common.{is_dot_segment, is_all, is_one_dot, is_one_dot_after, is_two_dots}

-- each of the texts lacks the slash
abbrev pub all_lack : List (List ℕ) → Bool
all_lack [] = true
all_lack (s ∷ ss) = lacks 47 s && all_lack ss

-- a text has at least one piece
pub record Pieces (xs : List ℕ) : Type 0 where
  pub first : List ℕ
  pub rest : List (List ℕ)
  pub whole : pieces 47 xs ≡ first ∷ rest

pub pieces-some : (xs : List ℕ) → Pieces xs
pieces-some [] = record { first = []; rest = []; whole = refl }
pieces-some (x ∷ xs) =
    let r = pieces-some xs in
    elim (x == 47) as (λ b. (x == 47) ≡ b → Pieces (x ∷ xs)) [
      | true ↦ λ e. record { first = []; rest = pieces 47 xs; whole = rw e refl }
      | false ↦ λ e. record { first = x ∷ r.first; rest = r.rest; whole = rw e (ap (onto x) r.whole) }
    ] refl

pub pieces-append : (xs ys : List ℕ) → pieces 47 (xs ++ 47 ∷ ys) ≡ pieces 47 xs ++ pieces 47 ys
pieces-append [] ys = refl
pieces-append (x ∷ xs) ys =
    let r = pieces-some xs in
    elim (x == 47) as (λ b. cond b ([] ∷ pieces 47 (xs ++ 47 ∷ ys)) (onto x (pieces 47 (xs ++ 47 ∷ ys)))
    ≡ cond b ([] ∷ pieces 47 xs) (onto x (pieces 47 xs)) ++ pieces 47 ys) [
      | true ↦ ap (λ ps. [] ∷ ps) (pieces-append xs ys)
      | false ↦ ap (onto x) (pieces-append xs ys) ∙ (rw r.whole refl)
    ]

pub pieces-whole : (xs : List ℕ) → lacks 47 xs ≡ true → pieces 47 xs ≡ xs ∷ []
pieces-whole [] h = refl
pieces-whole (x ∷ xs) h =
    elim (x == 47) as (λ b. (not b && lacks 47 xs) ≡ true
    → cond b ([] ∷ pieces 47 xs) (onto x (pieces 47 xs)) ≡ (x ∷ xs) ∷ []) [
      | true ↦ λ k. cc
      | false ↦ λ k. ap (onto x) (pieces-whole xs k)
    ] h

pub pieces-slash : (xs ys : List ℕ) → lacks 47 xs ≡ true → pieces 47 (xs ++ 47 ∷ ys) ≡ xs ∷ pieces 47 ys
pieces-slash xs ys h = pieces-append xs ys ∙ ap (λ ps. ps ++ pieces 47 ys) (pieces-whole xs h)

pub pieces-lack : (xs : List ℕ) → all_lack (pieces 47 xs) ≡ true
pieces-lack [] = refl
pieces-lack (x ∷ xs) =
    let r = pieces-some xs in
    let k = both (lacks 47 r.first) (all_lack r.rest) (subst (λ ps. all_lack ps ≡ true) r.whole (pieces-lack xs)) in
    elim (x == 47) as (λ b. (x == 47) ≡ b → all_lack (cond b ([] ∷ pieces 47 xs) (onto x (pieces 47 xs))) ≡ true) [
      | true ↦ λ _. pieces-lack xs
      | false ↦ λ e. rw (r.whole, e, k.0) k.1
    ] refl

-- ---- dot segments
-- a dot has no slash in it: what passes other bytes by passes it by
pub past_dot : {A : Type 0} (g : List ℕ → A) → ((x : ℕ) (xs : List ℕ) → (x == 47) ≡ false → g (x ∷ xs) ≡ g xs) → (d r : List ℕ)
    → after_dot d ≡ Some r → g d ≡ g r
past_dot g pass [] r h = cc
past_dot g pass (x ∷ []) r h =
    by_test x 46 (λ b. cond b (Some []) None ≡ Some r → g (x ∷ []) ≡ g r)
    (λ e k. let n : [] ≡ r = cc in pass x [] (ap (λ y. y == 47) e) ∙ ap g n) (λ _ k. cc) h
past_dot g pass (x ∷ y ∷ []) r h =
    by_test x 46 (λ b. cond b (Some (y ∷ [])) None ≡ Some r → g (x ∷ y ∷ []) ≡ g r)
    (λ e k. let n : y ∷ [] ≡ r = cc in pass x (y ∷ []) (ap (λ y. y == 47) e) ∙ ap g n) (λ _ k. cc) h
past_dot g pass (x ∷ y ∷ z ∷ xs) r h =
    by_test x 46 (λ b. cond b (Some (y ∷ z ∷ xs)) (cond (x == 37 && (y == 50 && (z == 69 || z == 101))) (Some xs) None) ≡ Some r
    → g (x ∷ y ∷ z ∷ xs) ≡ g r)
    (λ e k. let n : y ∷ z ∷ xs ≡ r = cc in pass x (y ∷ z ∷ xs) (ap (λ y. y == 47) e) ∙ ap g n)
    (λ _ k. elim (x == 37 && (y == 50 && (z == 69 || z == 101))) as (λ b. (x == 37 && (y == 50 && (z == 69 || z == 101))) ≡ b
    → cond b (Some xs) None ≡ Some r → g (x ∷ y ∷ z ∷ xs) ≡ g r) [
      | true ↦ λ t l. let n : xs ≡ r = cc in let m = slashless x y z t in pass x (y ∷ z ∷ xs) m.0 ∙ pass y (z ∷ xs) m.1 ∙ pass z xs m.2 ∙ ap g n
      | false ↦ λ _ l. cc
    ] refl k)
    h
  where
    slashless : (x y z : ℕ) → (x == 37 && (y == 50 && (z == 69 || z == 101))) ≡ true
        → ((x == 47) ≡ false) × ((y == 47) ≡ false) × ((z == 47) ≡ false)
    slashless x y z t = (grind (arith, nat_tests), grind (arith, nat_tests), grind (arith, nat_tests))

after_dot-lacks : (d r : List ℕ) → after_dot d ≡ Some r → lacks 47 d ≡ lacks 47 r
after_dot-lacks d r h = past_dot (lacks 47) (λ x xs e. rw e refl) d r h

one_dot-lacks : (d : List ℕ) → is_one_dot d ≡ true → lacks 47 d ≡ true
one_dot-lacks d h = by_rest (after_dot d) refl h
  where
    by_rest : (o : Option (List ℕ)) → after_dot d ≡ o → is_all o ≡ true → lacks 47 d ≡ true
    by_rest None e k = cc
    by_rest (Some []) e k = after_dot-lacks d [] e
    by_rest (Some (x ∷ xs)) e k = cc

pub dot_segment-lacks : (d : List ℕ) → is_dot_segment d ≡ true → lacks 47 d ≡ true
unfolding is_dot_segment
dot_segment-lacks d h = by_rest (after_dot d) refl h
  where
    by_rest : (o : Option (List ℕ)) → after_dot d ≡ o → (is_all o || is_one_dot_after o) ≡ true → lacks 47 d ≡ true
    by_rest None e k = cc
    by_rest (Some []) e k = after_dot-lacks d [] e
    by_rest (Some (x ∷ xs)) e k = after_dot-lacks d (x ∷ xs) e ∙ one_dot-lacks (x ∷ xs) k

-- a dot segment is one dot or two
pub dot_kinds : (d : List ℕ) → is_dot_segment d ≡ (is_one_dot d || is_two_dots d)
unfolding is_dot_segment
dot_kinds d = refl

pub dot-is_one : (d : List ℕ) → is_dot_segment d ≡ true → is_two_dots d ≡ false → is_one_dot d ≡ true
dot-is_one d h k = sym (or-false (is_one_dot d)) ∙ (ap (λ b. is_one_dot d || b) (sym k) ∙ (sym (dot_kinds d) ∙ h))

pub nothing-is_no_dot : is_dot_segment [] ≡ false
unfolding is_dot_segment
nothing-is_no_dot = refl
