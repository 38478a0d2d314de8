-- The entries of lines, and one line more or one target less.
use Rattle.std.proofs.Common.{◌≡◌, ℕ, List, [], ◌∷◌, ◌++◌, map, filter, Bool, true, false, not, cond, true≢false, bytes_eq, refl, sym}
use Rattle.std.proofs.Common.{◌∙◌, ap, subst}
use Rattle.std.proofs.lemmas.Slice.Eq.{bytes_eq-Decides}
use Rattle.iri_register.specs.Entries.{Entry, with_line, added, removed}
use Rattle.iri_register.specs.Commands.{Line, targets, numbers, entries_of_lines}

-- ---- texts

pub same : (t : List ℕ) → bytes_eq t t ≡ true
same t = (bytes_eq-Decides t t).1 refl

pub is_same : (t u : List ℕ) → bytes_eq t u ≡ true → t ≡ u
is_same t u h = (bytes_eq-Decides t u).0 h

turned : (t u : List ℕ) (b : Bool) → bytes_eq t u ≡ b → bytes_eq u t ≡ b
turned t u true h = subst (λ v. bytes_eq v t ≡ true) (is_same t u h) (same t)
turned t u false h =
    elim (bytes_eq u t) as (λ b. bytes_eq u t ≡ b → b ≡ false) [
      | true ↦ λ e. absurd (true≢false (sym (subst (λ v. bytes_eq v u ≡ true) (is_same u t e) (same u)) ∙ h))
      | false ↦ λ e. refl
    ] refl

-- ---- without one target

abbrev pub without : List ℕ → List Entry → List Entry
without t es = filter (λ e. not (bytes_eq t e.target)) es

abbrev pub grouped : List Line → List Entry
grouped [] = []
grouped (l ∷ ls) = record { target = l.target; lines = l.number ∷ numbers l.target ls } ∷ without l.target (grouped ls)

-- ---- one target at a time is all targets at once

other_numbers : (l : Line) (ls : List Line) (t : List ℕ) → bytes_eq l.target t ≡ false → numbers t (l ∷ ls) ≡ numbers t ls
other_numbers l ls t h = rw (turned l.target t false h) refl

own_numbers : (l : Line) (ls : List Line) → numbers l.target (l ∷ ls) ≡ l.number ∷ numbers l.target ls
own_numbers l ls = rw (same l.target) refl

others : (l : Line) (ls : List Line) (ts : List (List ℕ))
    → map (λ (t : List ℕ). record { target = t; lines = numbers t (l ∷ ls) }) (filter (λ t. not (bytes_eq l.target t)) ts)
    ≡ without l.target (map (λ (t : List ℕ). record { target = t; lines = numbers t ls }) ts)
others l ls [] = refl
others l ls (t ∷ ts) =
    elim (bytes_eq l.target t) as (λ b. bytes_eq l.target t ≡ b
    → map (λ (u : List ℕ). record { target = u; lines = numbers u (l ∷ ls) }) (filter (λ u. not (bytes_eq l.target u)) (t ∷ ts))
    ≡ without l.target (map (λ (u : List ℕ). record { target = u; lines = numbers u ls }) (t ∷ ts))) [
      | true ↦ λ e. rw e (others l ls ts)
      | false ↦ λ e. rw e (λ j. record { target = t; lines = other_numbers l ls t e j } ∷ others l ls ts j)
    ] refl

pub entries_grouped : (ls : List Line) → entries_of_lines ls ≡ grouped ls
entries_grouped [] = refl
entries_grouped (l ∷ ls) =
    λ j. record { target = l.target; lines = own_numbers l ls j } ∷ (others l ls (targets ls)
    ∙ ap (without l.target) (entries_grouped ls)) j

-- ---- one line more

-- the entries without a target are so after a line of that target
added_own : (t u : List ℕ) (n : ℕ) → bytes_eq t u ≡ true → (es : List Entry) → without t (added es u n) ≡ without t es
added_own t u n h [] = rw h refl
added_own t u n h (e ∷ es) =
    elim (bytes_eq u e.target) as (λ b. bytes_eq u e.target ≡ b
    → without t (cond b (with_line e n ∷ es) (e ∷ added es u n)) ≡ without t (e ∷ es)) [
      | true ↦ λ k. let gone : bytes_eq t e.target ≡ true = subst (λ v. bytes_eq v e.target ≡ true) (sym (is_same t u h)) k in rw gone refl
      | false ↦ λ k. λ j. cond (not (bytes_eq t e.target)) (e ∷ added_own t u n h es j) (added_own t u n h es j)
    ] refl

-- a line of another target comes before or after
added_other : (t u : List ℕ) (n : ℕ) → bytes_eq t u ≡ false → (es : List Entry) → without t (added es u n) ≡ added (without t es) u n
added_other t u n h [] = rw h refl
added_other t u n h (e ∷ es) =
    elim (bytes_eq u e.target) as (λ b. bytes_eq u e.target ≡ b → without t (added (e ∷ es) u n) ≡ added (without t (e ∷ es)) u n) [
      | true ↦ λ k. let stays : bytes_eq t e.target ≡ false = subst (λ v. bytes_eq t v ≡ false) (is_same u e.target k) h in
          rw (k, stays, k) refl
      | false ↦ λ k.
          elim (bytes_eq t e.target) as (λ b. bytes_eq t e.target ≡ b → without t (added (e ∷ es) u n) ≡ added (without t (e ∷ es)) u n) [
            | true ↦ λ m. rw (k, m) (added_other t u n h es)
            | false ↦ λ m. rw (k, m, k) (ap (λ l. e ∷ l) (added_other t u n h es))
          ] refl
    ] refl

numbers_after : (l : Line) (ls : List Line) (t : List ℕ) → bytes_eq t l.target ≡ true
    → numbers t (ls ++ l ∷ []) ≡ numbers t ls ++ l.number ∷ []
numbers_after l [] t h = rw h refl
numbers_after l (k ∷ ls) t h =
    elim (bytes_eq t k.target) as (λ b. bytes_eq t k.target ≡ b → numbers t ((k ∷ ls) ++ l ∷ []) ≡ numbers t (k ∷ ls) ++ l.number ∷ []) [
      | true ↦ λ e. rw e (ap (λ ns. k.number ∷ ns) (numbers_after l ls t h))
      | false ↦ λ e. rw e (numbers_after l ls t h)
    ] refl

numbers_same : (l : Line) (ls : List Line) (t : List ℕ) → bytes_eq t l.target ≡ false → numbers t (ls ++ l ∷ []) ≡ numbers t ls
numbers_same l [] t h = rw h refl
numbers_same l (k ∷ ls) t h =
    elim (bytes_eq t k.target) as (λ b. bytes_eq t k.target ≡ b → numbers t ((k ∷ ls) ++ l ∷ []) ≡ numbers t (k ∷ ls)) [
      | true ↦ λ e. rw e (ap (λ ns. k.number ∷ ns) (numbers_same l ls t h))
      | false ↦ λ e. rw e (numbers_same l ls t h)
    ] refl

pub grouped_after : (ls : List Line) (l : Line) → grouped (ls ++ l ∷ []) ≡ added (grouped ls) l.target l.number
grouped_after [] l = refl
grouped_after (k ∷ ls) l =
    elim (bytes_eq l.target k.target) as (λ b. bytes_eq l.target k.target ≡ b
    → grouped ((k ∷ ls) ++ l ∷ []) ≡ added (grouped (k ∷ ls)) l.target l.number) [
      | true ↦ λ e.
          let back = turned l.target k.target true e in
          let rest = ap (without k.target) (grouped_after ls l) ∙ added_own k.target l.target l.number back (grouped ls) in
          rw e (λ j. record { target = k.target; lines = k.number ∷ numbers_after l ls k.target back j } ∷ rest j)
      | false ↦ λ e.
          let back = turned l.target k.target false e in
          let rest = ap (without k.target) (grouped_after ls l) ∙ added_other k.target l.target l.number back (grouped ls) in
          rw e (λ j. record { target = k.target; lines = k.number ∷ numbers_same l ls k.target back j } ∷ rest j)
    ] refl

-- ---- one target less

pub filter_twice : {X : Type 0} (p : X → Bool) (xs : List X) → filter p (filter p xs) ≡ filter p xs
filter_twice p [] = refl
filter_twice p (x ∷ xs) =
    let rest = filter_twice p xs in
    elim (p x) as (λ b. p x ≡ b → filter p (cond b (x ∷ filter p xs) (filter p xs)) ≡ cond b (x ∷ filter p xs) (filter p xs)) [
      | true ↦ λ m. rw (m, rest) refl
      | false ↦ λ m. rest
    ] refl

-- a target taken out, and another entry gone
removed_other : (t u : List ℕ) → bytes_eq t u ≡ false → (es : List Entry) → removed (without t es) u ≡ without t (removed es u)
removed_other t u h [] = refl
removed_other t u h (e ∷ es) =
    elim (bytes_eq u e.target) as (λ b. bytes_eq u e.target ≡ b → removed (without t (e ∷ es)) u ≡ without t (removed (e ∷ es) u)) [
      | true ↦ λ k. let stays : bytes_eq t e.target ≡ false = subst (λ v. bytes_eq t v ≡ false) (is_same u e.target k) h in
          rw (stays, k) refl
      | false ↦ λ k.
          elim (bytes_eq t e.target) as (λ b. bytes_eq t e.target ≡ b → removed (without t (e ∷ es)) u ≡ without t (removed (e ∷ es) u)) [
            | true ↦ λ m. rw (m, k) (rw m (removed_other t u h es))
            | false ↦ λ m. rw (m, k) (rw m (ap (λ l. e ∷ l) (removed_other t u h es)))
          ] refl
    ] refl

abbrev pub without_lines : List ℕ → List Line → List Line
without_lines t ls = filter (λ l. not (bytes_eq t l.target)) ls

numbers_without : (t u : List ℕ) → bytes_eq t u ≡ false → (ls : List Line) → numbers u (without_lines t ls) ≡ numbers u ls
numbers_without t u h [] = refl
numbers_without t u h (l ∷ ls) =
    elim (bytes_eq t l.target) as (λ b. bytes_eq t l.target ≡ b → numbers u (without_lines t (l ∷ ls)) ≡ numbers u (l ∷ ls)) [
      | true ↦ λ k. let no : bytes_eq u l.target ≡ false =
          turned l.target u false (subst (λ v. bytes_eq v u ≡ false) (is_same t l.target k) h) in rw (k, no) (numbers_without t u h ls)
      | false ↦ λ k.
          elim (bytes_eq u l.target) as (λ b. bytes_eq u l.target ≡ b → numbers u (without_lines t (l ∷ ls)) ≡ numbers u (l ∷ ls)) [
            | true ↦ λ m. rw (k, m) (ap (λ ns. l.number ∷ ns) (numbers_without t u h ls))
            | false ↦ λ m. rw (k, m) (numbers_without t u h ls)
          ] refl
    ] refl

swapped : (t u : List ℕ) (es : List Entry) → without t (without u es) ≡ without u (without t es)
swapped t u [] = refl
swapped t u (e ∷ es) =
    elim (bytes_eq t e.target) as (λ b. bytes_eq t e.target ≡ b → without t (without u (e ∷ es)) ≡ without u (without t (e ∷ es))) [
      | true ↦ λ k.
          elim (bytes_eq u e.target) as (λ b. bytes_eq u e.target ≡ b → without t (without u (e ∷ es)) ≡ without u (without t (e ∷ es))) [
            | true ↦ λ m. rw (k, m) (swapped t u es)
            | false ↦ λ m. rw (k, m) (rw k (swapped t u es))
          ] refl
      | false ↦ λ k.
          elim (bytes_eq u e.target) as (λ b. bytes_eq u e.target ≡ b → without t (without u (e ∷ es)) ≡ without u (without t (e ∷ es))) [
            | true ↦ λ m. rw (k, m) (swapped t u es)
            | false ↦ λ m. rw (k, m) (rw k (ap (λ l. e ∷ l) (swapped t u es)))
          ] refl
    ] refl

grouped_less : (t : List ℕ) (ls : List Line) → grouped (without_lines t ls) ≡ without t (grouped ls)
grouped_less t [] = refl
grouped_less t (l ∷ ls) =
    elim (bytes_eq t l.target) as (λ b. bytes_eq t l.target ≡ b → grouped (without_lines t (l ∷ ls)) ≡ without t (grouped (l ∷ ls))) [
      | true ↦ λ k. rw k (grouped_less t ls
          ∙ sym (subst (λ v. without t (without v (grouped ls)) ≡ without t (grouped ls)) (is_same t l.target k) (filter_twice (λ (e : Entry). not (bytes_eq t e.target)) (grouped ls))))
      | false ↦ λ k.
          let rest = ap (without l.target) (grouped_less t ls) ∙ swapped l.target t (grouped ls) in
          rw k (λ j. record { target = l.target; lines = l.number ∷ numbers_without t l.target k ls j } ∷ rest j)
    ] refl

removed_less : (t : List ℕ) (ls : List Line) → removed (grouped ls) t ≡ without t (grouped ls)
removed_less t [] = refl
removed_less t (l ∷ ls) =
    elim (bytes_eq t l.target) as (λ b. bytes_eq t l.target ≡ b → removed (grouped (l ∷ ls)) t ≡ without t (grouped (l ∷ ls))) [
      | true ↦ λ k. rw k
          (sym (subst (λ v. without t (without v (grouped ls)) ≡ without v (grouped ls)) (is_same t l.target k) (filter_twice (λ (e : Entry). not (bytes_eq t e.target)) (grouped ls))))
      | false ↦ λ k.
          let rest = removed_other l.target t (turned t l.target false k) (grouped ls)
          ∙ (ap (without l.target) (removed_less t ls) ∙ swapped l.target t (grouped ls)) in
          rw k (ap (λ (es : List Entry). record { target = l.target; lines = l.number ∷ numbers l.target ls } ∷ es) rest)
    ] refl

pub grouped_without : (t : List ℕ) (ls : List Line) → grouped (without_lines t ls) ≡ removed (grouped ls) t
grouped_without t ls = grouped_less t ls ∙ sym (removed_less t ls)
