-- What the slots say of the entries that were not taken out.
use Rattle.iri_register.proofs.Common.{Lines, numbers_in, Key, AreHashed, IsHashed, key_eq, keys_of, lookup, IsDistinct, AllByRecursion, Entry, entry_at, place, added, removed, line_count}
use Rattle.iri_register.proofs.Common.{entry_of, entries_of, has_lines, is_live, Moves, moved, IsBlocked, is_text, IsAt, flag_at, gaps, IsKept}
use Rattle.std.proofs.Common.{bytes_eq, ◌≡◌, ◌≢◌, ℕ, zero, suc, ◌+◌, ◌-◌, ◌<◌, ◌≤◌, List, [], ◌∷◌, ◌++◌, length, map, filter}
use Rattle.std.proofs.Common.{◌^◌, Option, get_or, position, slice_get, true, false, cond, true≢false, Some, None, is_some, option_map, ◌&&◌, string_bytes}
use Rattle.std.proofs.Common.{refl, sym, ◌∙◌, ap, subst, arith, ⊎_elim}
use Rattle.std.proofs.Math.Bool.{and-false}
use Rattle.std.proofs.lemmas.Bool.{cases_lt}
use Rattle.std.proofs.lemmas.List.{length-append}
use Rattle.std.proofs.lemmas.List.Quantifiers.{position-Some}
use Rattle.std.proofs.lemmas.Option.{none-some, same_Some}
use Rattle.std.specs.Map.{values_of}
use Rattle.std.specs.Prelude.{nat_eq}
use Rattle.std.specs.declared.hash.DefaultHasher.{DefaultHasher}
use Rattle.indexmap.specs.IndexMap.{set_value_at, insert_entry}
use Rattle.iri_register.specs.Entries.{with_line}
use Rattle.iri_register.specs.inside.Moved.{IsPlacedBy}
use Rattle.iri_register.specs.inside.Slots.{flag}
use Rattle.iri_register.proofs.GroupLemmas.{filter_twice, is_same}
use Rattle.iri_register.proofs.HashLemmas.{as_texts, hashed_last, hashed_live, hashed_set}

-- ---- gaps

pub gaps_small : (es : List (Key × Lines)) (n : ℕ) → gaps es n ≤ n
gaps_small [] n = omega arith
gaps_small (e ∷ es) zero = omega arith
gaps_small (e ∷ es) (suc n) =
    let rest = gaps_small es n in
    elim (is_live e) as (λ b. cond b 0 1 + gaps es n ≤ suc n) [ true ↦ omega (arith, rest) | false ↦ omega (arith, rest) ]

pub gaps_most : (es : List (Key × Lines)) (n : ℕ) → gaps es n + length (filter is_live es) ≤ length es
gaps_most [] n = omega arith
gaps_most (e ∷ es) zero = let rest = gaps_most es zero in
    elim (is_live e) as (λ b. ◌≤◌ (0 + length (cond b (e ∷ filter is_live es) (filter is_live es))) (suc (length es))) [
      | true ↦ omega (arith, rest)
      | false ↦ omega (arith, rest)
    ]
gaps_most (e ∷ es) (suc n) = let rest = gaps_most es n in
    elim (is_live e) as (λ b. cond b 0 1 + gaps es n + length (cond b (e ∷ filter is_live es) (filter is_live es)) ≤ suc (length es)) [
      | true ↦ omega (arith, rest)
      | false ↦ omega (arith, rest)
    ]

pub gaps_all : (es : List (Key × Lines)) (n : ℕ) → length es ≤ n → gaps es n + length (filter is_live es) ≡ length es
gaps_all [] n h = refl
gaps_all (e ∷ es) zero h = absurd (omega arith)
gaps_all (e ∷ es) (suc n) h =
    let rest = gaps_all es n (omega arith) in
    elim (is_live e) as (λ b. cond b 0 1 + gaps es n + length (cond b (e ∷ filter is_live es) (filter is_live es)) ≡ suc (length es)) [
      | true ↦ omega (arith, rest)
      | false ↦ omega (arith, rest)
    ]

pub gaps_next : (es : List (Key × Lines)) (n : ℕ) → n < length es → gaps es (suc n) + flag_at es n ≡ gaps es n + 1
gaps_next [] n h = absurd (omega arith)
gaps_next (e ∷ es) zero h =
    let z = none es in
    elim (is_live e) as (λ b. cond b 0 1 + gaps es 0 + cond b 1 0 ≡ 0 + 1) [ true ↦ omega (arith, z) | false ↦ omega (arith, z) ]
  where
    none : (es : List (Key × Lines)) → gaps es 0 ≡ 0
    none [] = refl
    none (e ∷ es) = refl
gaps_next (e ∷ es) (suc n) h = let rest = gaps_next es n (omega arith) in omega (arith, rest)

zero_one : ◌≡◌ {A = ℕ} 0 1 → ⊥
zero_one h = omega (arith, h)

pub flag_true : (e : Key × Lines) → flag e ≡ 1 → is_live e ≡ true
flag_true e h = elim (is_live e) as (λ b. ◌≡◌ {A = ℕ} (cond b 1 0) 1 → b ≡ true) [ true ↦ λ m. refl | false ↦ λ m. absurd (zero_one m) ] h

pub flag_false : (e : Key × Lines) → flag e ≡ 0 → is_live e ≡ false
flag_false e h = elim (is_live e) as (λ b. ◌≡◌ {A = ℕ} (cond b 1 0) 0 → b ≡ false) [ true ↦ λ m. absurd (zero_one (sym m)) | false ↦ λ m. refl ] h

-- ---- places

-- one more than no place is none
pub less_none : (o : Option ℕ) → option_map (λ k. k + 1) o ≡ None → o ≡ None
less_none None h = refl
less_none (Some k) h = absurd (none-some _ (sym h))

pub at_within : (t : List ℕ) (es : List (Key × Lines)) (i : ℕ) → IsAt t es i → i < length es
at_within t [] i h = absurd h
at_within t (e ∷ es) zero h = omega arith
at_within t (e ∷ es) (suc i) h = let rest = at_within t es i h.1 in omega arith

at_from : (t : List ℕ) (es : List (Key × Lines)) (i : ℕ) (d : Key) → i < length (keys_of es)
    → is_text t (get_or (keys_of es) i d) ≡ true
    → ((k : ℕ) → k < i → is_text t (get_or (keys_of es) k d) ≡ false) → IsAt t es i
at_from t [] i d l here before = absurd (omega arith)
at_from t (e ∷ es) zero d l here before = here
at_from t (e ∷ es) (suc i) d l here before =
    (before 0 (omega arith), at_from t es i d (omega arith) here (λ k h. before (suc k) (omega arith)))

pub at_position : (t : List ℕ) (es : List (Key × Lines)) (i : ℕ) → position (is_text t) (keys_of es) ≡ Some i → IsAt t es i
at_position t [] i p = absurd (none-some _ p)
at_position t (e ∷ es) i p = let s = position-Some (is_text t) (keys_of (e ∷ es)) i e.0 p in at_from t (e ∷ es) i e.0 s.0 s.1 s.2

pub place_live : (t : List ℕ) (es : List (Key × Lines)) (i : ℕ) → IsAt t es i → flag_at es i ≡ 1
    → place (entries_of es) t ≡ Some (i - gaps es i + 1)
place_live t [] i h f = absurd h
place_live t (e ∷ es) zero h f = rw (flag_true e f, h) refl
place_live t (e ∷ es) (suc i) h f =
    let rest = place_live t es i h.1 f in
    let small = gaps_small es i in
    elim (is_live e) as (λ b. place (map entry_of (cond b (e ∷ filter is_live es) (filter is_live es))) t
    ≡ Some (suc i - (cond b 0 1 + gaps es i) + 1)) [
      | true ↦ rw (h.0, rest) (ap Some (omega (arith, small)))
      | false ↦ rest ∙ ap Some (omega (arith, small))
    ]

pub place_absent : (t : List ℕ) (es : List (Key × Lines)) → AllByRecursion (λ y. is_text t y ≡ false) (keys_of es)
    → place (entries_of es) t ≡ None
place_absent t [] h = refl
place_absent t (e ∷ es) h =
    let rest = place_absent t es h.1 in
    elim (is_live e) as (λ b. place (map entry_of (cond b (e ∷ filter is_live es) (filter is_live es))) t ≡ None) [
      | true ↦ rw (h.0, rest) refl
      | false ↦ rest
    ]

pub lookup_absent : (t : List ℕ) (es : List (Key × Lines)) → is_some (lookup (is_text t) es) ≡ false
    → AllByRecursion (λ y. is_text t y ≡ false) (keys_of es)
lookup_absent t [] h = tt
lookup_absent t (e ∷ es) h =
    elim (is_text t e.0) as (λ b. is_some (cond b (Some e.1) (lookup (is_text t) es)) ≡ false
    → (b ≡ false) × AllByRecursion (λ y. is_text t y ≡ false) (keys_of es)) [
      | true ↦ λ m. absurd (true≢false m)
      | false ↦ λ m. (refl, lookup_absent t es m)
    ] h

-- ---- the entry at a place

pub entry_live : (es : List (Key × Lines)) (s : ℕ) → flag_at es s ≡ 1
    → slice_get (entries_of es) (s - gaps es s) ≡ option_map entry_of (slice_get es s)
entry_live [] s f = absurd (omega arith)
entry_live (e ∷ es) zero f = rw (flag_true e f) refl
entry_live (e ∷ es) (suc s) f =
    let rest = entry_live es s f in
    let small = gaps_small es s in
    elim (is_live e) as (λ b. slice_get (map entry_of (cond b (e ∷ filter is_live es) (filter is_live es))) (suc s - (cond b 0 1 + gaps es s))
    ≡ option_map entry_of (slice_get es s)) [
      | true ↦ let up : suc s - (0 + gaps es s) ≡ suc (s - gaps es s) = omega (arith, small) in
          ap (slice_get (entry_of e ∷ entries_of es)) up ∙ rest
      | false ↦ let up : suc s - (1 + gaps es s) ≡ s - gaps es s = omega (arith, small) in ap (slice_get (entries_of es)) up ∙ rest
    ]

-- ---- an entry is taken out

pub removed_live : (t : List ℕ) (es : List (Key × Lines)) (i : ℕ) (w : Lines) → IsAt t es i → flag_at es i ≡ 1
    → has_lines (numbers_in w) ≡ false → entries_of (set_value_at es i w) ≡ removed (entries_of es) t
removed_live t [] i w h f n = absurd h
removed_live t (e ∷ es) zero w h f n = rw (n, flag_true e f, h) refl
removed_live t (e ∷ es) (suc i) w h f n =
    let rest = removed_live t es i w h.1 f n in
    elim (is_live e) as (λ b. map entry_of (cond b (e ∷ filter is_live (set_value_at es i w)) (filter is_live (set_value_at es i w)))
    ≡ removed (map entry_of (cond b (e ∷ filter is_live es) (filter is_live es))) t) [
      | true ↦ rw (h.0, rest) refl
      | false ↦ rest
    ]

pub count_live : (t : List ℕ) (es : List (Key × Lines)) (i : ℕ) (v : Lines) → IsAt t es i → flag_at es i ≡ 1
    → slice_get (values_of es) i ≡ Some v → line_count (entries_of es) t ≡ Some (length (numbers_in v))
count_live t [] i v h f g = absurd h
count_live t (e ∷ es) zero v h f g = rw (flag_true e f, h) (ap (λ (u : Lines). Some (length (numbers_in u))) (same_Some _ _ g))
count_live t (e ∷ es) (suc i) v h f g =
    let rest = count_live t es i v h.1 f g in
    elim (is_live e) as (λ b. line_count (map entry_of (cond b (e ∷ filter is_live es) (filter is_live es))) t ≡ Some (length (numbers_in v))) [
      | true ↦ rw (h.0, rest) refl
      | false ↦ rest
    ]

pub count_none : (es : List Entry) (t : List ℕ) → place es t ≡ None → line_count es t ≡ None
count_none [] t h = refl
count_none (e ∷ es) t h =
    elim (bytes_eq t e.target) as (λ b. cond b (Some 1) (option_map (λ k. k + 1) (place es t)) ≡ None → cond b (Some (length e.lines)) (line_count es t) ≡ None) [
      | true ↦ λ m. absurd (none-some _ (sym m))
      | false ↦ λ m. count_none es t (less_none (place es t) m)
    ] h

pub removed_none : (es : List Entry) (t : List ℕ) → place es t ≡ None → removed es t ≡ es
removed_none [] t h = refl
removed_none (e ∷ es) t h =
    elim (bytes_eq t e.target) as (λ b. cond b (Some 1) (option_map (λ k. k + 1) (place es t)) ≡ None → cond b es (e ∷ removed es t) ≡ e ∷ es) [
      | true ↦ λ m. absurd (none-some _ (sym m))
      | false ↦ λ m. ap (λ l. e ∷ l) (removed_none es t (less_none (place es t) m))
    ] h

-- the slots before it stay, and those after it move up
pub gaps_before : (es : List (Key × Lines)) (i k : ℕ) (w : Lines) → k ≤ i → gaps (set_value_at es i w) k ≡ gaps es k
gaps_before [] i k w h = refl
gaps_before (e ∷ es) zero zero w h = refl
gaps_before (e ∷ es) zero (suc k) w h = absurd (omega arith)
gaps_before (e ∷ es) (suc i) zero w h = refl
gaps_before (e ∷ es) (suc i) (suc k) w h = ap (λ n. cond (is_live e) 0 1 + n) (gaps_before es i k w (omega arith))

pub gaps_after : (es : List (Key × Lines)) (i k : ℕ) (w : Lines) → i < k → flag_at es i ≡ 1 → has_lines (numbers_in w) ≡ false
    → gaps (set_value_at es i w) k ≡ gaps es k + 1
gaps_after [] i k w h f n = absurd (zero_one f)
gaps_after (e ∷ es) i zero w h f n = absurd (omega arith)
gaps_after (e ∷ es) zero (suc k) w h f n = rw (n, flag_true e f) (omega arith)
gaps_after (e ∷ es) (suc i) (suc k) w h f n = let rest = gaps_after es i k w (omega arith) f n in omega (arith, rest)

pub length_set : (es : List (Key × Lines)) (i : ℕ) (w : Lines) → length (set_value_at es i w) ≡ length es
length_set [] i w = refl
length_set (e ∷ es) zero w = refl
length_set (e ∷ es) (suc i) w = ap suc (length_set es i w)

-- ---- what the slot that a search found says

pub flag_entry : (es : List (Key × Lines)) (i : ℕ) (k : Key) (v : Lines) → slice_get es i ≡ Some (k, v)
    → flag_at es i ≡ cond (has_lines (numbers_in v)) 1 0
flag_entry [] i k v h = absurd (none-some _ h)
flag_entry (e ∷ es) zero k v h = ap (λ (p : Key × Lines). cond (has_lines (numbers_in p.1)) 1 0) (same_Some _ _ h)
flag_entry (e ∷ es) (suc i) k v h = flag_entry es i k v h

pub apart_text : (h : DefaultHasher) (t : List ℕ) (k : Key) → bytes_eq t (string_bytes k.text) ≡ true → IsHashed h k
    → (es : List (Key × Lines)) → AreHashed h es → AllByRecursion (λ y. key_eq k y ≡ false) (keys_of es)
    → AllByRecursion (λ y. is_text t y ≡ false) (keys_of es)
apart_text h t k e hk [] hs a = tt
apart_text h t k e hk (x ∷ es) hs a = (
  subst (λ v. bytes_eq v (string_bytes x.0.text) ≡ false) (sym (is_same t (string_bytes k.text) e)) (sym (as_texts h k x.0 hk hs.0) ∙ a.0),
  apart_text h t k e hk es hs.1 a.1,
)

pub place_dead : (h : DefaultHasher) (t : List ℕ) (es : List (Key × Lines)) (i : ℕ) → AreHashed h es → IsDistinct key_eq (keys_of es)
    → IsAt t es i → flag_at es i ≡ 0 → place (entries_of es) t ≡ None
unfolding IsDistinct
place_dead h t [] i hs d a f = absurd a
place_dead h t (e ∷ es) zero hs d a f = rw (flag_false e f) (place_absent t es (apart_text h t e.0 a hs.0 es hs.1 d.0))
place_dead h t (e ∷ es) (suc i) hs d a f =
    let rest = place_dead h t es i hs.1 d.1 a.1 f in
    elim (is_live e) as (λ b. place (map entry_of (cond b (e ∷ filter is_live es) (filter is_live es))) t ≡ None) [
      | true ↦ rw (a.0, rest) refl
      | false ↦ rest
    ]

-- ---- together with the moves

-- a slot of the entries has not moved up by more than its number
pub moved_is : {h : DefaultHasher} {es : List (Key × Lines)} {m : Moves} {live : ℕ} → IsKept h es m live → (i : ℕ) → i < length es
    → moved m i ≡ gaps es i
moved_is kept i h = kept.moves i (omega (arith, h, kept.within))

pub placed_as_moved : {h : DefaultHasher} {es : List (Key × Lines)} {m : Moves} {live : ℕ} → IsKept h es m live → (i : ℕ) → i < length es
    → length es < 2 ^ 63 → IsPlacedBy m i
placed_as_moved {es = es} kept i within small =
    let m = moved_is kept i within in
    let g = gaps_small es i in
    record { blocked = kept.blocked; within = omega (arith, within, kept.within); up = omega (arith, m, g); small = omega (arith, within, small) }

pub place_is : {h : DefaultHasher} {es : List (Key × Lines)} {m : Moves} {live : ℕ} → IsKept h es m live → (t : List ℕ) (i n : ℕ) → IsAt t es i
    → flag_at es i ≡ 1 → i < length es → n + moved m i ≡ i + 1 → place (entries_of es) t ≡ Some n
place_is {es = es} kept t i n at living within is =
    let m = moved_is kept i within in
    let g = gaps_small es i in
    place_live t es i at living ∙ ap Some (omega (arith, is, m, g))

-- one is taken out
pub kept_less : {k : DefaultHasher} {es : List (Key × Lines)} {m : Moves} {live : ℕ} → IsKept k es m live → (i : ℕ) (w : Lines) (n : Moves)
    → i < length es → flag_at es i ≡ 1 → has_lines (numbers_in w) ≡ false → IsBlocked n → length n.slots.items ≡ length m.slots.items
    → ((k : ℕ) → k ≤ i → moved n k ≡ moved m k) → ((k : ℕ) → i < k → k < length m.slots.items → moved n k ≡ moved m k + 1)
    → IsKept k (set_value_at es i w) n (live - 1)
kept_less {k} {es} {m} {live} kept i w n h f z blocked same before after = record {
  hashed = hashed_set k es i w kept.hashed;
  blocked = blocked;
  within = let l = length_set es i w in omega (arith, l, same, kept.within);
  moves = λ k b. ⊎_elim
      (λ lt. let x = after k lt (omega (arith, b, same)) in
      let y = kept.moves k (omega (arith, b, same)) in
      let g = gaps_after es i k w lt f z in
      omega (arith, x, y, g))
      (λ le. before k le ∙ kept.moves k (omega (arith, b, same)) ∙ sym (gaps_before es i k w le)) (cases_lt i k);
  living =
      let a = gaps_all es (length es) (omega arith) in
      let l = length_set es i w in
      let b = gaps_all (set_value_at es i w) (length es) (omega (arith, l)) in
      let g = gaps_after es i (length es) w h f z in
      omega (arith, a, b, l, g, kept.living);
}

pub some_live : (es : List (Key × Lines)) (i : ℕ) (w : Lines) → i < length es → flag_at es i ≡ 1 → has_lines (numbers_in w) ≡ false
    → 1 ≤ length (filter is_live es)
some_live es i w h f n =
    let a = gaps_all es (length es) (omega arith) in
    let g = gaps_after es i (length es) w h f n in
    let m = gaps_most (set_value_at es i w) (length es) in
    let l = length_set es i w in
    omega (arith, a, g, m, l)

-- ---- by place

pub flag_small : (es : List (Key × Lines)) (i : ℕ) → flag_at es i ≤ 1
flag_small [] i = omega arith
flag_small (e ∷ es) zero = elim (is_live e) as (λ b. ◌≤◌ (cond b 1 0) 1) [ true ↦ omega arith | false ↦ omega arith ]
flag_small (e ∷ es) (suc i) = flag_small es i

pub entry_at_is : (es : List Entry) (k : ℕ) → k ≢ 0 → entry_at es k ≡ slice_get es (k - 1)
entry_at_is es zero h = absurd (h refl)
entry_at_is es (suc k) h = ap (slice_get es) (omega arith)

pub length_listed : (es : List (Key × Lines)) → length (entries_of es) ≡ length (filter is_live es)
length_listed [] = refl
length_listed (e ∷ es) =
    let rest = length_listed es in
    elim (is_live e) as (λ b. length (map entry_of (cond b (e ∷ filter is_live es) (filter is_live es)))
    ≡ length (cond b (e ∷ filter is_live es) (filter is_live es))) [ true ↦ ap suc rest | false ↦ rest ]

pub live_within : (es : List (Key × Lines)) → length (filter is_live es) ≤ length es
live_within es = let m = gaps_most es 0 in omega (arith, m)

-- the slot that stands as far after a place as its entry moved up
pub entry_in : (es : List (Key × Lines)) (place s : ℕ) → place ≢ 0 → flag_at es s ≡ 1 → place - 1 + gaps es s ≡ s
    → entry_at (entries_of es) place ≡ option_map entry_of (slice_get es s)
entry_in es place s p f c =
    let here : place - 1 ≡ s - gaps es s = omega (arith, c) in
    entry_at_is (entries_of es) place p ∙ (ap (slice_get (entries_of es)) here ∙ entry_live es s f)

-- ---- a line more

pub added_live : (t : List ℕ) (n : ℕ) (es : List (Key × Lines)) (i : ℕ) (v w : Lines) → IsAt t es i → flag_at es i ≡ 1
    → slice_get (values_of es) i ≡ Some v → numbers_in w ≡ numbers_in v ++ n ∷ [] → has_lines (numbers_in w) ≡ true
    → entries_of (set_value_at es i w) ≡ added (entries_of es) t n
added_live t n [] i v w h f g e l = absurd h
added_live t n (x ∷ es) zero v w h f g e l =
    rw (l, flag_true x f, h) (ap (λ (ls : List ℕ). record { target = string_bytes x.0.text; lines = ls } ∷ entries_of es) (e
    ∙ ap (λ (u : Lines). numbers_in u ++ n ∷ []) (sym (same_Some _ _ g))))
added_live t n (x ∷ es) (suc i) v w h f g e l =
    let rest = added_live t n es i v w h.1 f g e l in
    elim (is_live x) as (λ b. map entry_of (cond b (x ∷ filter is_live (set_value_at es i w)) (filter is_live (set_value_at es i w)))
    ≡ added (map entry_of (cond b (x ∷ filter is_live es) (filter is_live es))) t n) [
      | true ↦ rw (h.0, rest) refl
      | false ↦ rest
    ]

first_as : (k : Key) (w v : Lines) (es : List (Key × Lines)) → numbers_in w ≡ numbers_in v
    → entries_of ((k, w) ∷ es) ≡ entries_of ((k, v) ∷ es)
first_as k w v es e = first_shown k w es ∙ (λ j. shown k (e j) (entries_of es)) ∙ sym (first_shown k v es)
  where
    shown : Key → List ℕ → List Entry → List Entry
    shown k ls rest = cond (has_lines ls) (record { target = string_bytes k.text; lines = ls } ∷ rest) rest

    first_shown : (k : Key) (w : Lines) (es : List (Key × Lines)) → entries_of ((k, w) ∷ es)
        ≡ cond (has_lines (numbers_in w)) (record { target = string_bytes k.text; lines = numbers_in w } ∷ entries_of es) (entries_of es)
    first_shown k w es =
        elim (has_lines (numbers_in w)) as (λ b. map entry_of (cond b ((k, w) ∷ filter is_live es) (filter is_live es))
        ≡ cond b (record { target = string_bytes k.text; lines = numbers_in w } ∷ entries_of es) (entries_of es)) [ true ↦ refl | false ↦ refl ]

pub same_live : (es : List (Key × Lines)) (i : ℕ) (v w : Lines) → slice_get (values_of es) i ≡ Some v → numbers_in w ≡ numbers_in v
    → entries_of (set_value_at es i w) ≡ entries_of es
same_live [] i v w g e = refl
same_live (x ∷ es) zero v w g e = first_as x.0 w x.1 es (e ∙ ap (λ (u : Lines). numbers_in u) (sym (same_Some _ _ g)))
same_live (x ∷ es) (suc i) v w g e =
    let rest = same_live es i v w g e in
    elim (is_live x) as (λ b. map entry_of (cond b (x ∷ filter is_live (set_value_at es i w)) (filter is_live (set_value_at es i w)))
    ≡ map entry_of (cond b (x ∷ filter is_live es) (filter is_live es))) [
      | true ↦ ap (λ l. entry_of x ∷ l) rest
      | false ↦ rest
    ]

pub value_live : (es : List (Key × Lines)) (i : ℕ) (v : Lines) → flag_at es i ≡ 1 → slice_get (values_of es) i ≡ Some v
    → has_lines (numbers_in v) ≡ true
value_live [] i v f g = absurd (zero_one f)
value_live (e ∷ es) zero v f g = ap (λ (u : Lines). has_lines (numbers_in u)) (sym (same_Some _ _ g)) ∙ flag_true e f
value_live (e ∷ es) (suc i) v f g = value_live es i v f g

pub has_last : (ls : List ℕ) (n : ℕ) → has_lines (ls ++ n ∷ []) ≡ true
has_last [] n = refl
has_last (l ∷ ls) n = refl

gaps_same : (es : List (Key × Lines)) (i k : ℕ) (w : Lines) → flag_at es i ≡ 1 → has_lines (numbers_in w) ≡ true
    → gaps (set_value_at es i w) k ≡ gaps es k
gaps_same [] i k w f n = refl
gaps_same (e ∷ es) i zero w f n = none e es i w
  where
    none : (e : Key × Lines) (es : List (Key × Lines)) (i : ℕ) (w : Lines) → gaps (set_value_at (e ∷ es) i w) 0 ≡ 0
    none e es zero w = refl
    none e es (suc i) w = refl
gaps_same (e ∷ es) zero (suc k) w f n = rw (n, flag_true e f) refl
gaps_same (e ∷ es) (suc i) (suc k) w f n = ap (λ m. cond (is_live e) 0 1 + m) (gaps_same es i k w f n)

-- as many slots, with as many gaps before each
pub kept_as : {h : DefaultHasher} {es : List (Key × Lines)} {m : Moves} {live : ℕ} → IsKept h es m live → (ds : List (Key × Lines))
    → AreHashed h ds → length ds ≡ length es → ((k : ℕ) → gaps ds k ≡ gaps es k) → IsKept h ds m live
kept_as {h} {es} kept ds a l same = record {
  hashed = a;
  blocked = kept.blocked;
  within = omega (arith, l, kept.within);
  moves = λ k b. kept.moves k b ∙ sym (same k);
  living =
      let a = gaps_all es (length es) (omega arith) in
      let b = gaps_all ds (length es) (omega (arith, l)) in
      let g = same (length es) in
      omega (arith, a, b, l, g, kept.living);
}

pub kept_same : {h : DefaultHasher} {es : List (Key × Lines)} {m : Moves} {live : ℕ} → IsKept h es m live → (i : ℕ) (w : Lines) → flag_at es i ≡ 1
    → has_lines (numbers_in w) ≡ true → IsKept h (set_value_at es i w) m live
kept_same {h} {es} kept i w f n = kept_as kept (set_value_at es i w) (hashed_set h es i w kept.hashed) (length_set es i w) (λ k. gaps_same es i k w f n)

-- ---- slots are freed

pub packed_same : (es : List (Key × Lines)) → entries_of (filter is_live es) ≡ entries_of es
packed_same es = ap (map entry_of) (filter_twice is_live es)

packed_gaps : (es : List (Key × Lines)) (k : ℕ) → gaps (filter is_live es) k ≡ 0
packed_gaps [] k = refl
packed_gaps (e ∷ es) k =
    elim (is_live e) as (λ b. is_live e ≡ b → gaps (cond b (e ∷ filter is_live es) (filter is_live es)) k ≡ 0) [
      | true ↦ λ m. first e es k m (packed_gaps es)
      | false ↦ λ m. packed_gaps es k
    ] refl
  where
    first : (e : Key × Lines) (es : List (Key × Lines)) (k : ℕ) → is_live e ≡ true
        → ((j : ℕ) → gaps (filter is_live es) j ≡ 0) → gaps (e ∷ filter is_live es) k ≡ 0
    first e es zero m r = refl
    first e es (suc k) m r = let z = r k in rw m (omega (arith, z))

pub kept_packed : (h : DefaultHasher) (es : List (Key × Lines)) (m : Moves) (live : ℕ) → AreHashed h es → live ≡ length (filter is_live es) → IsBlocked m
    → live < length m.slots.items → ((k : ℕ) → moved m k ≡ 0) → IsKept h (filter is_live es) m live
kept_packed h es m live a e blocked w none = record {
  hashed = hashed_live h es a;
  blocked = blocked;
  within = omega (arith, e, w);
  moves = λ k b. none k ∙ sym (packed_gaps es k);
  living = e ∙ ap length (sym (filter_twice is_live es));
}

-- ---- a new entry is last

pub insert_last : (k : Key) (w : Lines) (es : List (Key × Lines)) → is_some (lookup (is_text (string_bytes k.text)) es) ≡ false
    → insert_entry key_eq es k w ≡ es ++ (k, w) ∷ []
insert_last k w [] h = refl
insert_last k w (x ∷ es) h =
    elim (is_text (string_bytes k.text) x.0) as (λ b. is_some (cond b (Some x.1) (lookup (is_text (string_bytes k.text)) es)) ≡ false
    → cond (nat_eq k.hash x.0.hash && b) ((x.0, w) ∷ es) (x ∷ insert_entry key_eq es k w) ≡ x ∷ (es ++ (k, w) ∷ [])) [
      | true ↦ λ m. absurd (true≢false m)
      | false ↦ λ m. rw (and-false (nat_eq k.hash x.0.hash)) (ap (λ l. x ∷ l) (insert_last k w es m))
    ] h

entries_last : (es : List (Key × Lines)) (x : Key × Lines) → is_live x ≡ true
    → entries_of (es ++ x ∷ []) ≡ entries_of es ++ entry_of x ∷ []
entries_last [] x h = rw h refl
entries_last (e ∷ es) x h =
    let rest = entries_last es x h in
    elim (is_live e) as (λ b. map entry_of (cond b (e ∷ filter is_live (es ++ x ∷ [])) (filter is_live (es ++ x ∷ [])))
    ≡ map entry_of (cond b (e ∷ filter is_live es) (filter is_live es)) ++ entry_of x ∷ []) [
      | true ↦ ap (λ l. entry_of e ∷ l) rest
      | false ↦ rest
    ]

added_last : (es : List Entry) (t : List ℕ) (n : ℕ) → place es t ≡ None → added es t n ≡ es ++ record { target = t; lines = n ∷ [] } ∷ []
added_last [] t n h = refl
added_last (e ∷ es) t n h =
    elim (bytes_eq t e.target) as (λ b. cond b (Some 1) (option_map (λ k. k + 1) (place es t)) ≡ None
    → cond b (with_line e n ∷ es) (e ∷ added es t n) ≡ e ∷ (es ++ record { target = t; lines = n ∷ [] } ∷ [])) [
      | true ↦ λ m. absurd (none-some _ (sym m))
      | false ↦ λ m. ap (λ l. e ∷ l) (added_last es t n (less_none (place es t) m))
    ] h

more_gaps : (es : List (Key × Lines)) (x : Key × Lines) (k : ℕ) → is_live x ≡ true → gaps (es ++ x ∷ []) k ≡ gaps es k
more_gaps [] x zero h = refl
more_gaps [] x (suc k) h = rw h refl
more_gaps (e ∷ es) x zero h = refl
more_gaps (e ∷ es) x (suc k) h = ap (λ n. cond (is_live e) 0 1 + n) (more_gaps es x k h)

pub added_new : (n : ℕ) (k : Key) (w : Lines) (es : List (Key × Lines))
    → is_some (lookup (is_text (string_bytes k.text)) es) ≡ false → numbers_in w ≡ n ∷ []
    → entries_of (insert_entry key_eq es k w) ≡ added (entries_of es) (string_bytes k.text) n
added_new n k w es h e =
    ap entries_of (insert_last k w es h)
    ∙ entries_last es (k, w) (ap has_lines e)
    ∙ ap (λ (ls : List ℕ). entries_of es ++ record { target = string_bytes k.text; lines = ls } ∷ []) e
    ∙ sym (added_last (entries_of es) (string_bytes k.text) n (place_absent (string_bytes k.text) es (lookup_absent (string_bytes k.text) es h)))

-- an entry more in the slot after the entries
pub kept_more : {k : DefaultHasher} {es : List (Key × Lines)} {m : Moves} {live : ℕ} → IsKept k es m live → (x : Key × Lines) → IsHashed k x.0
    → length es < length m.slots.items → is_live x ≡ true → IsKept k (es ++ x ∷ []) m (live + 1)
kept_more {k} {es} kept x a h n = record {
  hashed = hashed_last k es x kept.hashed a;
  blocked = kept.blocked;
  within = let l = length-append es (x ∷ []) in omega (arith, l, h);
  moves = λ k b. kept.moves k b ∙ sym (more_gaps es x k n);
  living =
      let l = length-append es (x ∷ []) in
      let a = gaps_all es (length es + 1) (omega arith) in
      let b = gaps_all (es ++ x ∷ []) (length es + 1) (omega (arith, l)) in
      let g = more_gaps es x (length es + 1) n in
      omega (arith, a, b, l, g, kept.living);
}
