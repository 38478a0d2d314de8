-- The mapping of paths: segments, and dot removal.
use Rattle.iri_normal.proofs.Common.{◌≡◌, ℕ, Bool, true, false, cond, not, ◌&&◌, ◌||◌, List, [], ◌∷◌, ◌++◌, Option, Some, None, map, refl}
use Rattle.iri_normal.proofs.Common.{sym, ◌∙◌, ap, subst, arith, ◌==◌, nat_lt, nat_tests, and-false, list_all, lacks, by_test}
use Rattle.iri_normal.proofs.Common.{starts_with_slashes, pieces, onto, after_dot, is_dot_segment, is_all, is_one_dot, is_one_dot_after}
use Rattle.iri_normal.proofs.Common.{is_two_dots, dots, guard, to_last_slash, option_map}
use Rattle.iri_normal.proofs.removal.Output.{KeepsSegments, dots-map}
use Rattle.iri_normal.proofs.segments.DotKinds.{pieces-some, dot_kinds}
use Rattle.iri_percent.proofs.mapping.Delimiters.{slash-apart, slash_hex, high_apart, mapped-lacks, mapped-slashes}
use Rattle.iri_percent.proofs.mapping.Texts.{mapped-low, mapped-high, mapped-append}
use Rattle.iri_percent.specs.Mapping.{capital_hex, triplet, mapped}
use Rattle.std.specs.Prelude.{◌/◌, ◌%◌}

last_slash-triplet : (x : ℕ) (ys : List ℕ) → to_last_slash (triplet x ++ ys) ≡ cond (lacks 47 ys) [] (triplet x ++ to_last_slash ys)
last_slash-triplet x ys = rw (slash_hex (x / 16), slash_hex (x % 16))
    (elim (lacks 47 ys) as (λ b. cond b [] (37 ∷ cond b [] (capital_hex (x / 16) ∷ cond b [] (capital_hex (x % 16) ∷ to_last_slash ys)))
    ≡ cond b [] (triplet x ++ to_last_slash ys)) [ true ↦ refl | false ↦ refl ])

pub mapped-last_slash : (xs : List ℕ) → to_last_slash (mapped xs) ≡ mapped (to_last_slash xs)
mapped-last_slash [] = refl
mapped-last_slash (x ∷ xs) =
    let l = mapped-lacks 47 xs slash-apart in
    elim (nat_lt x 128) as (λ b. nat_lt x 128 ≡ b → to_last_slash (mapped (x ∷ xs)) ≡ mapped (to_last_slash (x ∷ xs))) [
      | true ↦ λ e.
          ap to_last_slash (mapped-low x xs e) ∙ ap (λ b. cond (not (x == 47) && b) [] (x ∷ to_last_slash (mapped xs))) l
          ∙ (elim (not (x == 47) && lacks 47 xs) as (λ b. cond b [] (x ∷ to_last_slash (mapped xs))
          ≡ mapped (cond b [] (x ∷ to_last_slash xs))) [
            | true ↦ refl
            | false ↦ ap (λ z. x ∷ z) (mapped-last_slash xs) ∙ sym (mapped-low x (to_last_slash xs) e)
          ])
      | false ↦ λ e.
          let n = high_apart x 47 e (omega arith) in
          ap to_last_slash (mapped-high x xs e) ∙ last_slash-triplet x (mapped xs)
          ∙ ap (λ b. cond b [] (triplet x ++ to_last_slash (mapped xs))) l
          ∙ (elim (lacks 47 xs) as (λ b. cond b [] (triplet x ++ to_last_slash (mapped xs))
          ≡ mapped (cond b [] (x ∷ to_last_slash xs))) [
            | true ↦ refl
            | false ↦ ap (λ z. triplet x ++ z) (mapped-last_slash xs) ∙ sym (mapped-high x (to_last_slash xs) e)
          ])
          ∙ ap (λ b. mapped (cond (not b && lacks 47 xs) [] (x ∷ to_last_slash xs))) (sym n)
    ] refl

-- ---- segments
onto-triplet : (x : ℕ) (s : List ℕ) (ss : List (List ℕ)) (ys : List ℕ) → pieces 47 ys ≡ s ∷ ss
    → pieces 47 (triplet x ++ ys) ≡ (triplet x ++ s) ∷ ss
onto-triplet x s ss ys h = rw (slash_hex (x / 16), slash_hex (x % 16), h) refl

pub mapped-pieces : (xs : List ℕ) → pieces 47 (mapped xs) ≡ map mapped (pieces 47 xs)
mapped-pieces [] = refl
mapped-pieces (x ∷ xs) =
    let r = pieces-some xs in
    let rest : pieces 47 (mapped xs) ≡ mapped r.first ∷ map mapped r.rest = mapped-pieces xs ∙ ap (map mapped) r.whole in
    elim (nat_lt x 128) as (λ b. nat_lt x 128 ≡ b → pieces 47 (mapped (x ∷ xs)) ≡ map mapped (pieces 47 (x ∷ xs))) [
      | true ↦ λ e. ap (pieces 47) (mapped-low x xs e)
          ∙ (elim (x == 47) as (λ b. cond b ([] ∷ pieces 47 (mapped xs)) (onto x (pieces 47 (mapped xs)))
          ≡ map mapped (cond b ([] ∷ pieces 47 xs) (onto x (pieces 47 xs)))) [
            | true ↦ ap (λ ps. [] ∷ ps) (mapped-pieces xs)
            | false ↦ ap (onto x) rest ∙ ap (λ z. z ∷ map mapped r.rest) (sym (mapped-low x r.first e))
                ∙ ap (λ ps. map mapped (onto x ps)) (sym r.whole)
          ])
      | false ↦ λ e.
          ap (pieces 47) (mapped-high x xs e) ∙ onto-triplet x (mapped r.first) (map mapped r.rest) (mapped xs) rest
          ∙ ap (λ z. z ∷ map mapped r.rest) (sym (mapped-high x r.first e))
          ∙ ap (λ ps. map mapped (onto x ps)) (sym r.whole)
          ∙ ap (λ b. map mapped (cond b ([] ∷ pieces 47 xs) (onto x (pieces 47 xs)))) (sym (high_apart x 47 e (omega arith)))
    ] refl

-- ---- dots
pub after_dot-plain : (x : ℕ) (xs : List ℕ) → (x == 37) ≡ false → after_dot (x ∷ xs) ≡ cond (x == 46) (Some xs) None
after_dot-plain x [] h = refl
after_dot-plain x (y ∷ []) h = refl
after_dot-plain x (y ∷ z ∷ xs) h = rw h refl

no_dot_after_percent : (y z : ℕ) (xs : List ℕ) → (y == 50 && (z == 69 || z == 101)) ≡ false → after_dot (37 ∷ y ∷ z ∷ xs) ≡ None
no_dot_after_percent y z xs h = rw h refl

not_two : (x : ℕ) → nat_lt x 128 ≡ false → (capital_hex (x / 16) == 50) ≡ false
not_two x h = grind (arith, nat_tests)

no_dot-triplet : (x : ℕ) (ys : List ℕ) → nat_lt x 128 ≡ false → after_dot (triplet x ++ ys) ≡ None
no_dot-triplet x ys h = no_dot_after_percent (capital_hex (x / 16)) (capital_hex (x % 16)) ys (rw (not_two x h) refl)

no_dot-high : (x : ℕ) (xs : List ℕ) → nat_lt x 128 ≡ false → after_dot (x ∷ xs) ≡ None
no_dot-high x xs h = after_dot-plain x xs (high_apart x 37 h (omega arith)) ∙ rw (high_apart x 46 h (omega arith)) refl

-- after a `%`
after_percent : (xs : List ℕ) → after_dot (37 ∷ mapped xs) ≡ option_map mapped (after_dot (37 ∷ xs))
after_percent [] = refl
after_percent (y ∷ []) =
    elim (nat_lt y 128) as (λ b. after_dot (37 ∷ (cond b (y ∷ []) (triplet y) ++ [])) ≡ None) [ true ↦ refl | false ↦ refl ]
after_percent (y ∷ z ∷ xs) =
    elim (nat_lt y 128) as (λ b. nat_lt y 128 ≡ b → after_dot (37 ∷ mapped (y ∷ z ∷ xs))
    ≡ option_map mapped (after_dot (37 ∷ y ∷ z ∷ xs))) [
      | true ↦ λ e. ap (λ t. after_dot (37 ∷ t)) (mapped-low y (z ∷ xs) e) ∙ second e
      | false ↦ λ e. ap (λ t. after_dot (37 ∷ t)) (mapped-high y (z ∷ xs) e)
          ∙ sym (ap (option_map mapped) (no_dot_after_percent y z xs (rw (high_apart y 50 e (omega arith)) refl)))
    ] refl
  where
    second : nat_lt y 128 ≡ true → after_dot (37 ∷ y ∷ mapped (z ∷ xs)) ≡ option_map mapped (after_dot (37 ∷ y ∷ z ∷ xs))
    second d =
        elim (nat_lt z 128) as (λ b. nat_lt z 128 ≡ b
        → after_dot (37 ∷ y ∷ mapped (z ∷ xs)) ≡ option_map mapped (after_dot (37 ∷ y ∷ z ∷ xs))) [
          | true ↦ λ e. ap (λ t. after_dot (37 ∷ y ∷ t)) (mapped-low z xs e)
              ∙ (elim (y == 50 && (z == 69 || z == 101)) as (λ b. cond b (Some (mapped xs)) None
              ≡ option_map mapped (cond b (Some xs) None)) [ true ↦ refl | false ↦ refl ])
          | false ↦ λ e.
              ap (λ t. after_dot (37 ∷ y ∷ t)) (mapped-high z xs e)
              ∙ no_dot_after_percent y 37 (capital_hex (z / 16) ∷ capital_hex (z % 16) ∷ mapped xs) (and-false (y == 50))
              ∙ sym (ap (option_map mapped) (no_dot_after_percent y z xs
              (rw (high_apart z 69 e (omega arith), high_apart z 101 e (omega arith)) (and-false (y == 50)))))
        ] refl

mapped-dot : (xs : List ℕ) → after_dot (mapped xs) ≡ option_map mapped (after_dot xs)
mapped-dot [] = refl
mapped-dot (x ∷ xs) =
    elim (nat_lt x 128) as (λ b. nat_lt x 128 ≡ b → after_dot (mapped (x ∷ xs)) ≡ option_map mapped (after_dot (x ∷ xs))) [
      | true ↦ λ e. ap after_dot (mapped-low x xs e)
          ∙ by_test x 37 (λ b. (x == 37) ≡ b → after_dot (x ∷ mapped xs) ≡ option_map mapped (after_dot (x ∷ xs)))
          (λ same _. subst (λ y. after_dot (y ∷ mapped xs) ≡ option_map mapped (after_dot (y ∷ xs))) (sym same) (after_percent xs))
          (λ _ n. after_dot-plain x (mapped xs) n
          ∙ (elim (x == 46) as (λ b. cond b (Some (mapped xs)) None ≡ option_map mapped (cond b (Some xs) None)) [
            | true ↦ refl
            | false ↦ refl
          ]) ∙ ap (option_map mapped) (sym (after_dot-plain x xs n)))
          refl
      | false ↦ λ e. ap after_dot (mapped-high x xs e) ∙ no_dot-triplet x (mapped xs) e
          ∙ ap (option_map mapped) (sym (no_dot-high x xs e))
    ] refl

all-mapped : (o : Option (List ℕ)) → is_all (option_map mapped o) ≡ is_all o
all-mapped None = refl
all-mapped (Some []) = refl
all-mapped (Some (x ∷ xs)) = elim (nat_lt x 128) as (λ b. is_all (Some (cond b (x ∷ []) (triplet x) ++ mapped xs)) ≡ false) [
  | true ↦ refl
  | false ↦ refl
]

mapped-one_dot : (t : List ℕ) → is_one_dot (mapped t) ≡ is_one_dot t
mapped-one_dot t = ap is_all (mapped-dot t) ∙ all-mapped (after_dot t)

after-mapped : (o : Option (List ℕ)) → is_one_dot_after (option_map mapped o) ≡ is_one_dot_after o
after-mapped None = refl
after-mapped (Some r) = mapped-one_dot r

mapped-two_dots : (t : List ℕ) → is_two_dots (mapped t) ≡ is_two_dots t
mapped-two_dots t = ap is_one_dot_after (mapped-dot t) ∙ after-mapped (after_dot t)

mapped-dot_segment : (t : List ℕ) → is_dot_segment (mapped t) ≡ is_dot_segment t
mapped-dot_segment t = dot_kinds (mapped t) ∙ (rw (mapped-one_dot t, mapped-two_dots t) (sym (dot_kinds t)))

every : (ss : List (List ℕ)) → list_all (λ s. true) ss ≡ true
every [] = refl
every (s ∷ ss) = every ss

-- ---- dot removal
-- mapping commutes with dot removal, and with the guard
pub mapped-dots : (p : List ℕ) → dots (mapped p) ≡ mapped (dots p)
mapped-dots p = dots-map (λ s. true) mapped keeps p (mapped-pieces p) (every (pieces 47 p))
  where
    keeps : KeepsSegments (λ s. true) mapped
    keeps = record {
      nothing = refl;
      slash = λ a s. mapped-append a (47 ∷ s);
      dot = λ s _. mapped-dot_segment s;
      two = λ s _. mapped-two_dots s;
    }

pub mapped-guard : (p : List ℕ) (stands : Bool) → guard (mapped p) stands ≡ mapped (guard p stands)
mapped-guard p stands = rw (mapped-slashes p) (elim
    (stands || not (starts_with_slashes p)) as (λ b. cond b (mapped p) (47 ∷ 46 ∷ mapped p) ≡ mapped (cond b p (47 ∷ 46 ∷ p))) [
      | true ↦ refl
      | false ↦ refl
    ])
