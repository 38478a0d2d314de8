-- Lines that stand in one entry of `register`, by their numbers.
use Rattle.iri_cli.proofs.Common.{Tests, bytes_fault, reference_fault, ErrorKind, CanonMode, canonical_in, line_of, command_of, commands_from}
use Rattle.std.proofs.Common.{◌≡◌, ◌↔◌, ◌⊎◌, ℕ, ◌+◌, ◌≤◌, List, [], ◌∷◌, ◌++◌, map, filter, true, false, cond, bytes_eq, not}
use Rattle.std.proofs.Common.{Option, Some, None, slice_get, refl, sym, ◌∙◌, ap, subst, arith, inl, inr, ⊎_elim}
use Rattle.std.specs.Prelude.{Contains}
use Rattle.std.proofs.lemmas.List.Elements.{Contains-append_right, Contains-push_cases, Contains-append_cases}
use Rattle.iri_register.specs.Commands.{Command, Add, Remove, Line, live, stays, targets, numbers, entries_of_lines}
use Rattle.iri_register.specs.Entries.{Entry}
use Rattle.iri_register.proofs.GroupLemmas.{same, is_same}
use Rattle.std.proofs.lemmas.Option.{get_or_from_slice_get, slice_get_within}
use Rattle.iri_cli.specs.register.Lines.{RegisterLine, adds, removes, finds, bad, unless_fault}

-- ---- elements of lists
here : {X : Type 0} (x : X) (xs : List X) → Contains (x ∷ xs) x
here x xs = (0, omega arith, refl)

there : {X : Type 0} (y : X) (xs : List X) (x : X) → Contains xs x → Contains (y ∷ xs) x
there y xs x h = Contains-append_right (y ∷ []) xs x h

none : {X : Type 0} (x : X) → Contains [] x → ⊥
none x h = omega (arith, h.1)

first_or : {X : Type 0} (y : X) (ys : List X) (x : X) → Contains (y ∷ ys) x → (y ≡ x) ⊎ Contains ys x
first_or y ys x h =
    ⊎_elim (λ one. ⊎_elim (λ z. absurd (none x z)) (λ e. inl e) (Contains-push_cases [] y x one)) (λ rest. inr rest)
    (Contains-append_cases (y ∷ []) ys x h)

pub got : {X : Type 0} (xs : List X) (i : ℕ) (x : X) → slice_get xs i ≡ Some x → Contains xs x
got xs i x h = (i, slice_get_within xs i x h, get_or_from_slice_get xs i x x h)

mapped : {X Y : Type 0} (f : X → Y) (xs : List X) (x : X) → Contains xs x → Contains (map f xs) (f x)
mapped f [] x h = absurd (none x h)
mapped f (y ∷ ys) x h = ⊎_elim (λ e. subst (λ z. Contains (map f (y ∷ ys)) (f z)) e (here (f y) (map f ys)))
    (λ k. there (f y) (map f ys) (f x) (mapped f ys x k)) (first_or y ys x h)

map_of : {X Y : Type 0} (f : X → Y) (xs : List X) (y : Y) → Contains (map f xs) y → (x : X) × (f x ≡ y)
map_of f [] y h = absurd (none y h)
map_of f (x ∷ xs) y h = ⊎_elim (λ e. (x, e)) (λ k. map_of f xs y k) (first_or (f x) (map f xs) y h)

-- ---- the numbers of a target
numbers_has : (t : List ℕ) (ls : List Line) (l : Line) → Contains ls l → bytes_eq t l.target ≡ true → Contains (numbers t ls) l.number
numbers_has t [] l h e = absurd (none l h)
numbers_has t (k ∷ ls) l h e = ⊎_elim
    (λ is. let own : bytes_eq t k.target ≡ true = ap (λ (x : Line). bytes_eq t x.target) is ∙ e in
    rw own (subst (λ (x : Line). Contains (k.number ∷ numbers t ls) x.number) is (here k.number (numbers t ls))))
    (λ rest. let later = numbers_has t ls l rest e in
    elim (bytes_eq t k.target) as (λ b. bytes_eq t k.target ≡ b → Contains (numbers t (k ∷ ls)) l.number) [
      | true ↦ λ own. rw own (there k.number (numbers t ls) l.number later)
      | false ↦ λ other. rw other later
    ] refl)
    (first_or k ls l h)

-- the line of a number among those of a target
record IsNumbered (t : List ℕ) (ls : List Line) (n : ℕ) : Type 0 where
  line : Line
  contained : Contains ls line
  target : line.target ≡ t
  number : line.number ≡ n

numbers_of : (t : List ℕ) (ls : List Line) (n : ℕ) → Contains (numbers t ls) n → IsNumbered t ls n
numbers_of t [] n h = absurd (none n h)
numbers_of t (k ∷ ls) n h =
    elim (bytes_eq t k.target) as (λ b. bytes_eq t k.target ≡ b → Contains (numbers t (k ∷ ls)) n → IsNumbered t (k ∷ ls) n) [
      | true ↦ λ own c.
          let c : Contains (k.number ∷ numbers t ls) n = rw own at c in
          ⊎_elim (λ e. record { line = k; contained = here k ls; target = sym (is_same t k.target own); number = e })
          (λ rest. later (numbers_of t ls n rest)) (first_or k.number (numbers t ls) n c)
      | false ↦ λ other c.
          let c : Contains (numbers t ls) n = rw other at c in later (numbers_of t ls n c)
    ] refl h
  where
    later : IsNumbered t ls n → IsNumbered t (k ∷ ls) n
    later r = record { line = r.line; contained = there k ls r.line r.contained; target = r.target; number = r.number }

-- the targets without one
abbrev others : List ℕ → List (List ℕ) → List (List ℕ)
others u ts = filter (λ t. not (bytes_eq u t)) ts

kept : (u v : List ℕ) (ts : List (List ℕ)) → Contains ts v → bytes_eq u v ≡ false → Contains (others u ts) v
kept u v [] h other = absurd (none v h)
kept u v (t ∷ ts) h other = ⊎_elim
    (λ is. let stays : bytes_eq u t ≡ false = ap (bytes_eq u) is ∙ other in
    rw stays (subst (λ x. Contains (t ∷ others u ts) x) is (here t (others u ts))))
    (λ rest. let later = kept u v ts rest other in
    elim (bytes_eq u t) as (λ b. bytes_eq u t ≡ b → Contains (others u (t ∷ ts)) v) [
      | true ↦ λ gone. rw gone later
      | false ↦ λ stays. rw stays (there t (others u ts) v later)
    ] refl)
    (first_or t ts v h)

targets_has : (ls : List Line) (l : Line) → Contains ls l → Contains (targets ls) l.target
targets_has [] l h = absurd (none l h)
targets_has (k ∷ ls) l h = ⊎_elim
    (λ is. subst (λ (x : Line). Contains (targets (k ∷ ls)) x.target) is (here k.target (others k.target (targets ls))))
    (λ rest.
    elim (bytes_eq k.target l.target) as (λ b. bytes_eq k.target l.target ≡ b → Contains (targets (k ∷ ls)) l.target) [
      | true ↦ λ own.
          subst (λ t. Contains (targets (k ∷ ls)) t) (is_same k.target l.target own) (here k.target (others k.target (targets ls)))
      | false ↦ λ other.
          there k.target (others k.target (targets ls)) l.target (kept k.target l.target (targets ls) (targets_has ls l rest) other)
    ] refl)
    (first_or k ls l h)

-- ---- numbers are those of lines
module _ (s : Tests) (mode : CanonMode) (base : List ℕ) where
  abbrev target_of : RegisterLine → List ℕ
  target_of (adds r) = canonical_in s mode base r
  target_of (removes r) = []
  target_of (finds r) = []
  target_of bad = []

  -- the line that the first of several adds, or one that a later one adds
  abbrev First : ℕ → RegisterLine → List Command → Line → Type 0
  First n x cs l = (record { target = target_of x; number = n } ≡ l) ⊎ Contains (live cs) l

  added_first : (n : ℕ) (r : List ℕ) (f : Option ErrorKind) (cs : List Command) (l : Line)
      → Contains (live (unless_fault f (Add (canonical_in s mode base r) n) ++ cs)) l → First n (adds r) cs l
  added_first n r (Some kind) cs l h = inr h
  added_first n r None cs l h =
      elim (stays (canonical_in s mode base r) cs) as (λ b. Contains (cond b (record { target = canonical_in s mode base r; number = n } ∷ live cs) (live cs)) l
      → First n (adds r) cs l) [
        | true ↦ λ c. first_or (record { target = canonical_in s mode base r; number = n }) (live cs) l c
        | false ↦ λ c. inr c
      ] h

  removed_first : (n : ℕ) (r : List ℕ) (f : Option ErrorKind) (cs : List Command) (l : Line)
      → Contains (live (unless_fault f (Remove (canonical_in s mode base r)) ++ cs)) l → First n (removes r) cs l
  removed_first n r (Some kind) cs l h = inr h
  removed_first n r None cs l h = inr h

  live_first : (n : ℕ) (x : RegisterLine) (cs : List Command) (l : Line) → Contains (live (command_of s mode base n x ++ cs)) l → First n x cs l
  live_first n (adds r) cs l h = added_first n r (bytes_fault (reference_fault s) r) cs l h
  live_first n (removes r) cs l h = removed_first n r (bytes_fault (reference_fault s) r) cs l h
  live_first n (finds r) cs l h = inr h
  live_first n bad cs l h = inr h

  numbered_later : (n : ℕ) (lines : List (List ℕ)) (l : Line) → Contains (live (commands_from s mode base n lines)) l → n ≤ l.number
  numbered_later n [] l h = absurd (none l h)
  numbered_later n (line ∷ lines) l h = ⊎_elim
      (λ is. let number : n ≡ l.number = ap (λ (x : Line). x.number) is in omega (arith, number))
      (λ rest. let later = numbered_later (n + 1) lines l rest in omega (arith, later))
      (live_first n (line_of line) (commands_from s mode base (n + 1) lines) l h)

  -- one number has one target
  one_target : (n : ℕ) (lines : List (List ℕ)) (a b : Line) → Contains (live (commands_from s mode base n lines)) a
      → Contains (live (commands_from s mode base n lines)) b → a.number ≡ b.number → a.target ≡ b.target
  one_target n [] a b h i e = absurd (none a h)
  one_target n (line ∷ lines) a b h i e =
      let first = live_first n (line_of line) (commands_from s mode base (n + 1) lines) in
      ⊎_elim
      (λ p. ⊎_elim (λ q. ap (λ (x : Line). x.target) (sym p ∙ q))
      (λ q.
      let number : n ≡ a.number = ap (λ (x : Line). x.number) p in
      let later = numbered_later (n + 1) lines b q in
      absurd (omega (arith, number, later, e))) (first b i))
      (λ p. ⊎_elim
      (λ q.
      let number : n ≡ b.number = ap (λ (x : Line). x.number) q in
      let later = numbered_later (n + 1) lines a p in
      absurd (omega (arith, number, later, e)))
      (λ q. one_target (n + 1) lines a b p q e) (first b i))
      (first a h)

  -- both numbers stand in the lines of one entry
  abbrev pub Together : List Entry → ℕ → ℕ → Type 0
  Together es m n = (e : Entry) × Contains es e × Contains e.lines m × Contains e.lines n

  abbrev entry_of : List Line → List ℕ → Entry
  entry_of ls t = record { target = t; lines = numbers t ls }

  together_equal : (lines : List (List ℕ)) (a b : Line) → Contains (live (commands_from s mode base 2 lines)) a
      → Contains (live (commands_from s mode base 2 lines)) b
      → Together (entries_of_lines (live (commands_from s mode base 2 lines))) a.number b.number → a.target ≡ b.target
  together_equal lines a b h i e =
      let ls = live (commands_from s mode base 2 lines) in
      let t = map_of (entry_of ls) (targets ls) e.0 e.1 in
      let p = numbers_of t.0 ls a.number (subst (λ (x : Entry). Contains x.lines a.number) (sym t.1) e.2) in
      let q = numbers_of t.0 ls b.number (subst (λ (x : Entry). Contains x.lines b.number) (sym t.1) e.3) in
      one_target 2 lines a p.line h p.contained (sym p.number) ∙ p.target ∙ sym q.target
      ∙ one_target 2 lines q.line b q.contained i q.number

  equal_together : (lines : List (List ℕ)) (a b : Line) → Contains (live (commands_from s mode base 2 lines)) a
      → Contains (live (commands_from s mode base 2 lines)) b → a.target ≡ b.target
      → Together (entries_of_lines (live (commands_from s mode base 2 lines))) a.number b.number
  equal_together lines a b h i e =
      let ls = live (commands_from s mode base 2 lines) in (
        entry_of ls a.target,
        mapped (entry_of ls) (targets ls) a.target (targets_has ls a h),
        numbers_has a.target ls a h (same a.target),
        numbers_has a.target ls b i (subst (λ t. bytes_eq a.target t ≡ true) e (same a.target)),
      )

  -- two live lines stand in one entry exactly where their targets are equal
  pub together_exactly : (lines : List (List ℕ)) (a b : Line) → Contains (live (commands_from s mode base 2 lines)) a
      → Contains (live (commands_from s mode base 2 lines)) b
      → Together (entries_of_lines (live (commands_from s mode base 2 lines))) a.number b.number ↔ (a.target ≡ b.target)
  together_exactly lines a b h i = (together_equal lines a b h i, equal_together lines a b h i)
