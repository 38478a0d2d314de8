-- Dot segments, byte by byte.
use Rattle.iri_normal.proofs.Common.{◌≡◌, ℕ, Bool, true, false, cond, ◌&&◌, ◌||◌, List, [], ◌∷◌, Option, Some, None, ◌≤◌, ◌<◌, length, drop}
use Rattle.iri_normal.proofs.Common.{refl, sym, ◌∙◌, ap, subst, arith, ◌==◌, or_parts, before, after, by_test, is_empty, may_have_dots}
use Rattle.iri_normal.proofs.Common.{more_pieces, pieces_cut, after_dot, is_dot_segment, is_all, is_one_dot, is_one_dot_after}
use Rattle.iri_normal.proofs.Common.{any_dot_segment, has_dot_segment, dots_before, slash_and_dots, dots_after}
use Rattle.iri_grammar.specs.Seen.{begins_dot, has_slash_and_dot, slash_and_dot}
use Rattle.std.proofs.Common.{◌≢◌}

pub first_or_after : (t : List ℕ) → has_dot_segment t ≡ (dots_before t || dots_after t)
first_or_after t = ap any_dot_segment (pieces_cut 47 t)

one_step : (x : ℕ) (xs : List ℕ) → dots_after (x ∷ xs) ≡ (slash_and_dots (x ∷ xs) || dots_after xs)
one_step x xs = elim (x == 47) as (λ b. any_dot_segment (more_pieces 47 (cond b (Some xs) (after 47 xs)))
    ≡ (b && dots_before xs || dots_after xs)) [ true ↦ first_or_after xs | false ↦ refl ]

-- a path is searched place by place
pub next_place : (t : List ℕ) → 2 ≤ length t → dots_after t ≡ (slash_and_dots t || dots_after (drop 1 t))
next_place [] l = absurd (omega arith)
next_place (x ∷ xs) l = one_step x xs

pub too_short : (t : List ℕ) → length t < 2 → dots_after t ≡ false
unfolding is_dot_segment
too_short [] l = refl
too_short (x ∷ []) l = elim (x == 47) as (λ b. any_dot_segment (more_pieces 47 (cond b (Some []) None)) ≡ false) [
  | true ↦ refl
  | false ↦ refl
]
too_short (x ∷ y ∷ xs) l = absurd (omega arith)

-- ---- what begins a dot
no_dot : (x : ℕ) (xs : List ℕ) → (x == 46) ≡ false → (x == 37) ≡ false → after_dot (x ∷ xs) ≡ None
no_dot x [] h k = rw h refl
no_dot x (y ∷ []) h k = rw h refl
no_dot x (y ∷ z ∷ xs) h k = rw (h, k) refl

pub one_dot : (xs : List ℕ) → after_dot (46 ∷ xs) ≡ Some xs
one_dot [] = refl
one_dot (y ∷ []) = refl
one_dot (y ∷ z ∷ xs) = refl

abbrev pub cut_rest : Option (List ℕ) → Option (List ℕ)
cut_rest None = None
cut_rest (Some t) = Some (before 47 t)

-- `%2`, and what may follow
digit_cut : (z : ℕ) (xs : List ℕ) → after_dot (37 ∷ 50 ∷ before 47 (z ∷ xs)) ≡ cut_rest (cond (z == 69 || z == 101) (Some xs) None)
digit_cut z xs =
    by_test z 47 (λ b. after_dot (37 ∷ 50 ∷ cond b [] (z ∷ before 47 xs)) ≡ cut_rest (cond (z == 69 || z == 101) (Some xs) None))
    (λ e. subst (λ (n : ℕ). None ≡ cut_rest (cond (n == 69 || n == 101) (Some xs) None)) (sym e) refl)
    (λ _. elim (z == 69 || z == 101) as (λ b. cond b (Some (before 47 xs)) None ≡ cut_rest (cond b (Some xs) None)) [
      | true ↦ refl
      | false ↦ refl
    ])

-- `%` and another byte
no_digit : (y : ℕ) (xs : List ℕ) → y ≢ 50 → after_dot (37 ∷ before 47 (y ∷ xs)) ≡ None
no_digit y [] n = elim (y == 47) as (λ b. after_dot (37 ∷ cond b [] (y ∷ [])) ≡ None) [ true ↦ refl | false ↦ refl ]
no_digit y (z ∷ xs) n =
    let miss : (y == 50) ≡ false = by_test y 50 (λ b. b ≡ false) (λ e. absurd (n e)) (λ _. refl) in
    elim (y == 47) as (λ b. after_dot (37 ∷ cond b [] (y ∷ before 47 (z ∷ xs))) ≡ None) [
      | true ↦ refl
      | false ↦ elim (z == 47) as (λ b. after_dot (37 ∷ y ∷ cond b [] (z ∷ before 47 xs)) ≡ None) [ true ↦ refl | false ↦ rw miss refl ]
    ]

triplet_cut : (xs : List ℕ) → after_dot (37 ∷ before 47 xs) ≡ cut_rest (after_dot (37 ∷ xs))
triplet_cut [] = refl
triplet_cut (y ∷ []) = elim (y == 47) as (λ b. after_dot (37 ∷ cond b [] (y ∷ [])) ≡ None) [ true ↦ refl | false ↦ refl ]
triplet_cut (y ∷ z ∷ xs) =
    by_test y 50 (λ b. after_dot (37 ∷ before 47 (y ∷ z ∷ xs)) ≡ cut_rest (cond (b && (z == 69 || z == 101)) (Some xs) None))
    (λ e. subst (λ (n : ℕ). after_dot (37 ∷ before 47 (n ∷ z ∷ xs)) ≡ cut_rest (cond (z == 69 || z == 101) (Some xs) None)) (sym e)
    (digit_cut z xs))
    (λ n. no_digit y (z ∷ xs) n)

-- what follows a dot at the start of the first segment
pub dot_cut : (t : List ℕ) → after_dot (before 47 t) ≡ cut_rest (after_dot t)
dot_cut [] = refl
dot_cut (x ∷ xs) =
    by_test x 46 (λ b. (x == 46) ≡ b → after_dot (before 47 (x ∷ xs)) ≡ cut_rest (after_dot (x ∷ xs)))
    (λ e _. subst (λ (n : ℕ). after_dot (before 47 (n ∷ xs)) ≡ cut_rest (after_dot (n ∷ xs))) (sym e)
    (one_dot (before 47 xs) ∙ ap cut_rest (sym (one_dot xs))))
    (λ _ h. by_test x 37 (λ b. (x == 37) ≡ b → after_dot (before 47 (x ∷ xs)) ≡ cut_rest (after_dot (x ∷ xs)))
    (λ e _. subst (λ (n : ℕ). after_dot (before 47 (n ∷ xs)) ≡ cut_rest (after_dot (n ∷ xs))) (sym e) (triplet_cut xs))
    (λ _ k. (elim (x == 47) as (λ b. after_dot (cond b [] (x ∷ before 47 xs)) ≡ None) [
      | true ↦ refl
      | false ↦ no_dot x (before 47 xs) h k
    ]) ∙ ap cut_rest (sym (no_dot x xs h k)))
    refl)
    refl

abbrev has_dots_rest : Option (List ℕ) → Bool
has_dots_rest rest = is_all rest || is_one_dot_after rest

pub plain_prefix : (x : ℕ) (xs : List ℕ) → (x == 46) ≡ false → (x == 37) ≡ false → is_dot_segment (before 47 (x ∷ xs)) ≡ false
unfolding is_dot_segment
plain_prefix x xs h k = ap has_dots_rest (dot_cut (x ∷ xs) ∙ ap cut_rest (no_dot x xs h k))

-- ---- the first segment
pub no_dot_first : (t : List ℕ) → None ≡ after_dot t → is_dot_segment (before 47 t) ≡ false
unfolding is_dot_segment
no_dot_first t h = ap has_dots_rest (dot_cut t ∙ ap cut_rest (sym h))

-- ---- no segment begins with what begins a dot
none_there : (t : List ℕ) → begins_dot t ≡ false → after_dot t ≡ None
none_there [] h = refl
none_there (x ∷ []) h = rw (or_parts (x == 46) (x == 37 && false) h).0 refl
none_there (x ∷ y ∷ []) h = rw (or_parts (x == 46) (x == 37 && false) h).0 refl
none_there (x ∷ y ∷ z ∷ xs) h =
    let k = or_parts (x == 46) (x == 37 && (y == 50 && (z == 69 || z == 101))) h in rw (k.0, k.1) refl

begins_none : (t : List ℕ) → begins_dot t ≡ false → dots_before t ≡ false
begins_none t h = no_dot_first t (sym (none_there t h))

none_after : (t : List ℕ) → has_slash_and_dot t ≡ false → dots_after t ≡ false
none_after [] h = refl
none_after (x ∷ xs) h =
    let k = or_parts (slash_and_dot (x ∷ xs)) (has_slash_and_dot xs) h in
    let first : slash_and_dots (x ∷ xs) ≡ false = elim (x == 47) as (λ b. (b && begins_dot xs) ≡ false → (b && dots_before xs) ≡ false) [
      | true ↦ λ e. begins_none xs e
      | false ↦ λ _. refl
    ] k.0 in
    one_step x xs ∙ rw first (none_after xs k.1)

pub no_dots : (t : List ℕ) → may_have_dots t ≡ false → has_dot_segment t ≡ false
no_dots t h = let k = or_parts (begins_dot t) (has_slash_and_dot t) h in first_or_after t ∙ rw (begins_none t k.0) (none_after t k.1)

-- ---- one dot or two
dot_or_nothing : (xs : List ℕ) → is_empty xs ≡ true → (is_empty xs || is_one_dot xs) ≡ true
dot_or_nothing xs h = rw h refl

pub one_dot_first : (t r : List ℕ) → Some r ≡ after_dot t → is_empty (before 47 r) ≡ true → is_dot_segment (before 47 t) ≡ true
unfolding is_dot_segment
one_dot_first t r h e = ap has_dots_rest (dot_cut t ∙ ap cut_rest (sym h)) ∙ dot_or_nothing (before 47 r) e

pub two_dots_first : (t r : List ℕ) → Some r ≡ after_dot t → is_empty (before 47 r) ≡ false
    → is_dot_segment (before 47 t) ≡ is_all (cut_rest (after_dot r))
unfolding is_dot_segment
two_dots_first t r h e = ap has_dots_rest (dot_cut t ∙ ap cut_rest (sym h)) ∙ rw e (ap is_all (dot_cut r))
