-- The first dot segment of a path.
use Rattle.iri_normal.proofs.Common.{unwrap_or, eqb-true, length-take-le, take-append-drop, ◌==◌, slice_index, and-false, before, after}
use Rattle.iri_normal.proofs.Common.{both, after_shorter, pieces_cut, is_empty, is_all, is_one_dot_after, is_two_dots, any_dot_segment}
use Rattle.iri_normal.proofs.Common.{after_dot, is_dot_segment, has_dot_segment, ends_at_slash, dots_before, slash_and_dots, dots_after}
use Rattle.iri_normal.proofs.Common.{left, written, ◌≡◌, ℕ, suc, ◌+◌, ◌-◌, ◌<◌, ◌≤◌, Bool, true, false, cond, ◌&&◌, ◌||◌, List, [], ◌∷◌}
use Rattle.iri_normal.proofs.Common.{◌++◌, Option, Some, None, refl, sym, ◌∙◌, ap, subst, arith, length, take, drop, length-append}
use Rattle.iri_normal.proofs.Common.{append-nil}
use Rattle.iri_normal.proofs.segments.DotBytes.{cut_rest, dot_cut, first_or_after, next_place, one_dot_first, plain_prefix, too_short}
use Rattle.iri_normal.proofs.segments.DotBytes.{two_dots_first}
use Rattle.iri_normal.proofs.segments.Slashes.{both-end, take-ends}
use Rattle.iri_normal.proofs.segments.DotKinds.{nothing-is_no_dot, past_dot}
use Rattle.iri_normal.proofs.segments.CutPaths.{dot_in_two, nothing-plain}
use Rattle.iri_normal.proofs.removal.Buffers.{left-ends, written-dot, written-run}
use Rattle.iri_normal.specs.inside.NextDots.{IsBefore, IsNext}
use Rattle.std.proofs.Common.{drop-cons, below_more}
use Rattle.std.proofs.lemmas.Bool.{or_right, ne_eqb}

-- ---- a dot segment at the start
-- what follows a dot goes on to the same slash
after-dot : (d r : List ℕ) → after_dot d ≡ Some r → after 47 d ≡ after 47 r
after-dot d r h = past_dot (after 47) (λ x xs e. rw e refl) d r h

two-kind : (t r : List ℕ) → Some r ≡ after_dot t → is_two_dots (before 47 t) ≡ is_all (cut_rest (after_dot r))
two-kind t r h = ap is_one_dot_after (dot_cut t ∙ ap cut_rest (sym h)) ∙ ap is_all (dot_cut r)

pub nothing-before : (xs : List ℕ) → is_empty xs ≡ true → [] ≡ xs
nothing-before [] h = refl
nothing-before (x ∷ xs) h = cc

pub before-one : (t r q : List ℕ) → Some r ≡ after_dot t → is_empty (before 47 r) ≡ true → q ≡ unwrap_or (after 47 r) []
    → IsBefore t false q
before-one t r q h e w = record {
  dots = one_dot_first t r h e;
  kind = sym (ap is_one_dot_after (dot_cut t ∙ ap cut_rest (sym h))
      ∙ ap (λ l. is_all (after_dot l)) (sym (nothing-before (before 47 r) e)));
  rest_is = w ∙ ap (λ o. unwrap_or o []) (sym (after-dot t r (sym h)));
}

pub before-two : (t r s q : List ℕ) → Some r ≡ after_dot t → is_empty (before 47 r) ≡ false → Some s ≡ after_dot r
    → is_empty (before 47 s) ≡ true → q ≡ unwrap_or (after 47 s) [] → IsBefore t true q
before-two t r s q h e k f w =
    let n = nothing-before (before 47 s) f in
    record {
      dots = two_dots_first t r h e ∙ (ap (λ o. is_all (cut_rest o)) (sym k) ∙ f);
      kind = sym (two-kind t r h ∙ (ap (λ o. is_all (cut_rest o)) (sym k) ∙ ap (λ l. is_all (Some l)) (sym n)));
      rest_is = w ∙ ap (λ o. unwrap_or o []) (sym (after-dot t r (sym h) ∙ after-dot r s (sym k)));
    }

pub none-second : (t r : List ℕ) → Some r ≡ after_dot t → is_empty (before 47 r) ≡ false → None ≡ after_dot r
    → is_dot_segment (before 47 t) ≡ false
none-second t r h e k = two_dots_first t r h e ∙ ap (λ o. is_all (cut_rest o)) (sym k)

pub none-end : (t r s : List ℕ) → Some r ≡ after_dot t → is_empty (before 47 r) ≡ false → Some s ≡ after_dot r
    → is_empty (before 47 s) ≡ false → is_dot_segment (before 47 t) ≡ false
none-end t r s h e k f = two_dots_first t r h e ∙ (ap (λ o. is_all (cut_rest o)) (sym k) ∙ f)

-- ---- places without one
pub before-ended : (x : ℕ) (xs m : List ℕ) → ends_at_slash (x ∷ xs) ≡ true → before 47 ((x ∷ xs) ++ m) ≡ before 47 (x ∷ xs)
before-ended x [] m h = rw h refl
before-ended x (y ∷ ys) m h = ap (λ l. cond (x == 47) [] (x ∷ l)) (before-ended y ys m h)

before-cut : (x : ℕ) (xs m : List ℕ) → (is_empty m || ends_at_slash (x ∷ xs)) ≡ true → before 47 ((x ∷ xs) ++ m) ≡ before 47 (x ∷ xs)
before-cut x xs [] h = ap (before 47) (append-nil (x ∷ xs))
before-cut x xs (y ∷ ys) h = before-ended x xs (y ∷ ys) h

pub none-after : (a m : List ℕ) → (is_empty m || ends_at_slash a) ≡ true
    → ((k : ℕ) → k + 1 < length a → slash_and_dots (drop k (a ++ m)) ≡ false) → dots_after a ≡ false
none-after [] m h n = refl
none-after (x ∷ []) m h n = too_short (x ∷ []) (omega arith)
none-after (x ∷ y ∷ ys) m h n =
    let first : slash_and_dots (x ∷ y ∷ ys) ≡ false =
    ap (λ l. x == 47 && is_dot_segment l) (sym (before-cut y ys m h)) ∙ n 0 (omega arith) in
    next_place (x ∷ y ∷ ys) (omega arith) ∙ rw first (none-after (y ∷ ys) m h (λ k l. n (suc k) (omega arith)))

none-before : (a m : List ℕ) → (is_empty m || ends_at_slash a) ≡ true → is_dot_segment (before 47 (a ++ m)) ≡ false
    → ((k : ℕ) → k + 1 < length a → slash_and_dots (drop k (a ++ m)) ≡ false) → has_dot_segment a ≡ false
none-before [] m h f n = nothing-plain
none-before (x ∷ xs) m h f n =
    let first : dots_before (x ∷ xs) ≡ false = ap is_dot_segment (sym (before-cut x xs m h)) ∙ f in
    first_or_after (x ∷ xs) ∙ rw first (none-after (x ∷ xs) m h n)

pub none-there : (t : List ℕ) (i : ℕ) → length t ≤ i → is_dot_segment (before 47 t) ≡ false
    → ((k : ℕ) → k + 1 < i → slash_and_dots (drop k t) ≡ false) → has_dot_segment t ≡ false
none-there t i l f n =
    let whole = append-nil t in
    none-before t [] refl (ap (λ u. is_dot_segment (before 47 u)) whole ∙ f)
    (λ k m. ap (λ u. slash_and_dots (drop k u)) whole ∙ n k (omega arith))

-- the first one
pub found : (t : List ℕ) (i : ℕ) (two : Bool) (r : List ℕ) → 1 ≤ i → i < length t → is_dot_segment (before 47 t) ≡ false
    → ((k : ℕ) → k + 1 < i → slash_and_dots (drop k t) ≡ false) → slash_and_dots (drop (i - 1) t) ≡ true
    → IsBefore (drop i t) two r → IsNext t (take i t) two r
found t i two r low l f n s h =
    let whole = take-append-drop i t in
    let at : drop (i - 1) t ≡ slice_index t (i - 1) ∷ drop (suc (i - 1)) t = drop-cons t (i - 1) 0 (omega arith) in
    let byte : slice_index t (i - 1) ≡ 47 = eqb-true (slice_index t (i - 1)) 47
    (both (slice_index t (i - 1) == 47) (dots_before (drop (suc (i - 1)) t)) (ap slash_and_dots (sym at) ∙ s)).0 in
    let place : i - 1 + 1 ≡ i = omega arith in
    let ends : ends_at_slash (take i t) ≡ true = subst (λ k. ends_at_slash (take k t) ≡ true) place (take-ends t (i - 1) (omega arith) byte) in
    let size : length (take i t) ≡ i = length-take-le i t (omega arith) in
    record {
      more = drop i t;
      whole = sym whole;
      ends = ends;
      plain = none-before (take i t) (drop i t) (or_right (is_empty (drop i t)) _ ends) (ap (λ u. is_dot_segment (before 47 u)) whole ∙ f)
          (λ k m. ap (λ u. slash_and_dots (drop k u)) whole ∙ n k (omega arith));
      prefix = h;
    }

-- ---- places that are passed
place-none : (t : List ℕ) (i : ℕ) → 1 ≤ i → i < length t → is_dot_segment (before 47 (drop i t)) ≡ false
    → slash_and_dots (drop (i - 1) t) ≡ false
place-none t i low l h =
    let place : suc (i - 1) ≡ i = omega arith in
    let at : drop (i - 1) t ≡ slice_index t (i - 1) ∷ drop (suc (i - 1)) t = drop-cons t (i - 1) 0 (omega arith) in
    let rest : is_dot_segment (before 47 (drop (suc (i - 1)) t)) ≡ false = ap (λ k. is_dot_segment (before 47 (drop k t))) place ∙ h in
    ap slash_and_dots at ∙ rw rest (and-false (slice_index t (i - 1) == 47))

place-other : (t : List ℕ) (i : ℕ) → i < length t → (slice_index t i == 47) ≡ false → slash_and_dots (drop i t) ≡ false
place-other t i l h = ap slash_and_dots (drop-cons t i 0 l) ∙ rw h refl

plain-at : (t : List ℕ) (i : ℕ) → i < length t → (slice_index t i == 46) ≡ false → (slice_index t i == 37) ≡ false
    → is_dot_segment (before 47 (drop i t)) ≡ false
plain-at t i l h k = ap (λ u. is_dot_segment (before 47 u)) (drop-cons t i 0 l) ∙ plain_prefix (slice_index t i) (drop (suc i) t) h k

more-none : (t : List ℕ) (i : ℕ) → 1 ≤ i → ((k : ℕ) → k + 1 < i → slash_and_dots (drop k t) ≡ false)
    → slash_and_dots (drop (i - 1) t) ≡ false → (k : ℕ) → k + 1 < i + 1 → slash_and_dots (drop k t) ≡ false
more-none t i low n h k l = below_more (λ j. slash_and_dots (drop j t) ≡ false) (i - 1) (λ j m. n j (omega arith)) h k (omega arith)

pub pass-slash : (t : List ℕ) (i : ℕ) → 1 ≤ i → i < length t → slice_index t i ≡ 47
    → ((k : ℕ) → k + 1 < i → slash_and_dots (drop k t) ≡ false) → (k : ℕ) → k + 1 < i + 1 → slash_and_dots (drop k t) ≡ false
pass-slash t i low l e n =
    more-none t i low n (place-none t i low l (plain-at t i l (ap (λ x. x == 46) e) (ap (λ x. x == 37) e)))

pass-both : (t : List ℕ) (i : ℕ) → 1 ≤ i → i < length t → slash_and_dots (drop (i - 1) t) ≡ false → (slice_index t i == 47) ≡ false
    → ((k : ℕ) → k + 1 < i → slash_and_dots (drop k t) ≡ false) → (k : ℕ) → k + 1 < i + 2 → slash_and_dots (drop k t) ≡ false
pass-both t i low l h o n k m =
    let place : i ≡ i + 1 - 1 = omega arith in
    more-none t (i + 1) (omega arith) (more-none t i low n h)
    (subst (λ j. slash_and_dots (drop j t) ≡ false) place (place-other t i l o)) k (omega arith)

pub pass-plain : (t : List ℕ) (i : ℕ) → 1 ≤ i → i < length t → 47 < slice_index t i
    → ((k : ℕ) → k + 1 < i → slash_and_dots (drop k t) ≡ false) → (k : ℕ) → k + 1 < i + 2 → slash_and_dots (drop k t) ≡ false
pass-plain t i low l o n =
    pass-both t i low l (place-none t i low l (plain-at t i l (other 46 (omega arith)) (other 37 (omega arith)))) (other 47 (omega arith)) n
  where
    other : (c : ℕ) → c ≤ 47 → (slice_index t i == c) ≡ false
    other c a = ne_eqb (slice_index t i) c (λ e. omega arith)

-- ---- what follows from it
pub next-more : (m : List ℕ) → is_dot_segment (before 47 m) ≡ true → 0 < length m
next-more [] h = let n : false ≡ true = sym nothing-is_no_dot ∙ h in cc
next-more (x ∷ xs) h = omega arith

rest-shorter : (m : List ℕ) (o : Option (List ℕ)) → 0 < length m → after 47 m ≡ o → length (unwrap_or o []) < length m
rest-shorter m None l e = l
rest-shorter m (Some r) l e = omega (arith, after_shorter 47 m r e)

pub next-shorter : (t a : List ℕ) (two : Bool) (r : List ℕ) → IsNext t a two r → length a + length r < length t
next-shorter t a two r h =
    let l = next-more h.more h.prefix.dots in
    let s = rest-shorter h.more (after 47 h.more) l refl in
    omega (arith, ap length h.whole, length-append a h.more, ap length h.prefix.rest_is, s)

not-empty : (t : List ℕ) → 0 < length t → is_empty t ≡ false
not-empty [] l = absurd (omega arith)
not-empty (x ∷ xs) l = refl

or_second : (a b : Bool) → a ≡ false → (a || b) ≡ true → b ≡ true
or_second true b e h = cc
or_second false b e h = h

pub next-ends : (b t a : List ℕ) (two : Bool) (r : List ℕ) → IsNext t a two r → (is_empty t || ends_at_slash b) ≡ true
    → ends_at_slash (b ++ a) ≡ true
next-ends b t a two r h e =
    let s = next-shorter t a two r h in
    both-end b a (or_second (is_empty t) (ends_at_slash b) (not-empty t (omega arith)) e) h.ends

pub left-next : (two : Bool) (b r : List ℕ) → ends_at_slash b ≡ true → (is_empty r || ends_at_slash (left two b)) ≡ true
left-next two b r h = or_right (is_empty r) _ (left-ends two b h)

pub written-next : (b t a : List ℕ) (two : Bool) (r : List ℕ) → IsNext t a two r → written b t ≡ written (left two (b ++ a)) r
written-next b t a two r h =
    ap (written b) h.whole
    ∙ (written-run b a h.more h.ends h.plain
    ∙ (written-dot (b ++ a) h.more h.prefix.dots
    ∙ (ap (λ k. written (left k (b ++ a)) (unwrap_or (after 47 h.more) [])) (sym h.prefix.kind)
    ∙ ap (written (left two (b ++ a))) (sym h.prefix.rest_is))))

pub next-dotted : (t a : List ℕ) (two : Bool) (r : List ℕ) → IsNext t a two r → has_dot_segment t ≡ true
next-dotted t a two r h =
    let more : has_dot_segment h.more ≡ true = ap any_dot_segment (pieces_cut 47 h.more) ∙ rw h.prefix.dots refl in
    ap has_dot_segment h.whole ∙ (dot_in_two a h.more h.ends ∙ or_right (has_dot_segment a) _ more)
