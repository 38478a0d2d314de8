-- The key of an entry that was taken out goes, and another one comes into its slot.
use Rattle.iri_register.proofs.Common.{bytes_eq, ◌≡◌, ℕ, zero, suc, ◌+◌, ◌-◌, ◌<◌, List, [], ◌∷◌, ◌++◌, length, map, filter, true, false}
use Rattle.iri_register.proofs.Common.{Some, None, is_some, option_map, position, string_bytes, Key, AreHashed, IsHashed, key_eq, refl, sym, ◌∙◌, ap, arith}
use Rattle.iri_register.proofs.Common.{Lines, Ok, keys_of, lookup, IsDistinct, AllByRecursion, Entry, place, entry_of, entries_of, is_live}
use Rattle.iri_register.proofs.Common.{is_text, IsAt, flag_at, gaps, Moves, IsKept}
use Rattle.std.proofs.Common.{not, take, Bool, cond, nat_lt, slice_set, ⊎_elim, lt-ltb}
use Rattle.std.specs.Prelude.{slice_index_or, OnOk, Result, Err}
use Rattle.std.proofs.lemmas.Bool.{cases_lt}
use Rattle.std.proofs.lemmas.List.{length-map, length-set, length_push, get_or_push, set-append_left, take_at}
use Rattle.std.proofs.lemmas.Option.{none-some}
use Rattle.std.specs.List.{position_or_len, swap_remove}
use Rattle.std.specs.declared.hash.DefaultHasher.{DefaultHasher}
use Rattle.indexmap.specs.IndexMap.{insert_entry, swap_remove_entry}
use Rattle.iri_register.proofs.GroupLemmas.{same}
use Rattle.iri_register.proofs.HashLemmas.{hashed_last, hashed_slot, position_as}
use Rattle.iri_register.proofs.SlotLemmas.{at_within, apart_text, flag_false, flag_small, less_none, place_live, live_within}
use Rattle.iri_register.proofs.SlotLemmas.{insert_last, kept_as}

-- a target that has no entry stands in a slot that was given up
pub dead_at : (t : List ℕ) (es : List (Key × Lines)) (i : ℕ) → IsAt t es i → place (entries_of es) t ≡ None → flag_at es i ≡ 0
dead_at t es i h n =
    let small = flag_small es i in
    ⊎_elim (λ y. omega arith) (λ y. let one : flag_at es i ≡ 1 = omega arith in absurd (none-some _ (sym n ∙ place_live t es i h one)))
    (cases_lt (flag_at es i) 1)

none_among : (t : List ℕ) (es : List (Key × Lines)) → AllByRecursion (λ y. is_text t y ≡ false) (keys_of es)
    → is_some (lookup (is_text t) (filter is_live es)) ≡ false
none_among t [] h = refl
none_among t (e ∷ es) h =
    let rest = none_among t es h.1 in
    elim (is_live e) as (λ b. is_some (lookup (is_text t) (cond b (e ∷ filter is_live es) (filter is_live es))) ≡ false) [
      | true ↦ rw h.0 rest
      | false ↦ rest
    ]

-- and is no key of the entries that stay
pub lookup_gone : (h : DefaultHasher) (t : List ℕ) (es : List (Key × Lines)) (i : ℕ) → AreHashed h es → IsDistinct key_eq (keys_of es)
    → IsAt t es i → flag_at es i ≡ 0 → is_some (lookup (is_text t) (filter is_live es)) ≡ false
unfolding IsDistinct
lookup_gone h t [] i hs d a f = absurd a
lookup_gone h t (e ∷ es) zero hs d a f = rw (flag_false e f) (none_among t es (apart_text h t e.0 a hs.0 es hs.1 d.0))
lookup_gone h t (e ∷ es) (suc i) hs d a f =
    let rest = lookup_gone h t es i hs.1 d.1 a.1 f in
    elim (is_live e) as (λ b. is_some (lookup (is_text t) (cond b (e ∷ filter is_live es) (filter is_live es))) ≡ false) [
      | true ↦ rw a.0 rest
      | false ↦ rest
    ]

-- where no entry was taken out, a target that has none is no key
pub absent_live : (t : List ℕ) (es : List (Key × Lines)) → length es ≡ length (filter is_live es) → place (entries_of es) t ≡ None
    → is_some (lookup (is_text t) es) ≡ false
absent_live t [] h n = refl
absent_live t (e ∷ es) h n = by (λ l m. absent_live t es l m) (is_live e) h n
  where
    others : (length es ≡ length (filter is_live es) → place (entries_of es) t ≡ None → is_some (lookup (is_text t) es) ≡ false) → (b : Bool)
        → length es ≡ length (filter is_live es) → cond b (Some 1) (option_map (λ k. k + 1) (place (entries_of es) t)) ≡ None
        → is_some (cond b (Some e.1) (lookup (is_text t) es)) ≡ false
    others r true l m = absurd (none-some _ (sym m))
    others r false l m = r l (less_none (place (entries_of es) t) m)

    by : (length es ≡ length (filter is_live es) → place (entries_of es) t ≡ None → is_some (lookup (is_text t) es) ≡ false) → (b : Bool)
        → suc (length es) ≡ length (cond b (e ∷ filter is_live es) (filter is_live es))
        → place (map entry_of (cond b (e ∷ filter is_live es) (filter is_live es))) t ≡ None → is_some (lookup (is_text t) (e ∷ es)) ≡ false
    by r true l m = others r (is_text t e.0) (omega arith) m
    by r false l m = let w = live_within es in absurd (omega arith)

-- ---- the last entry comes into the slot

at_more : (t : List ℕ) (es : List (Key × Lines)) (i : ℕ) (x : Key × Lines) → IsAt t es i → IsAt t (es ++ x ∷ []) i
at_more t [] i x h = absurd h
at_more t (e ∷ es) zero x h = h
at_more t (e ∷ es) (suc i) x h = (h.0, at_more t es i x h.1)

or_len_at : (t : List ℕ) (es : List (Key × Lines)) (i : ℕ) → IsAt t es i → position_or_len (is_text t) (keys_of es) ≡ i
or_len_at t [] i h = absurd h
or_len_at t (e ∷ es) zero h = ap (λ b. cond (not b) (1 + position_or_len (is_text t) (keys_of es)) 0) h
or_len_at t (e ∷ es) (suc i) h =
    ap (λ b. cond (not b) (1 + position_or_len (is_text t) (keys_of es)) 0) h.0 ∙ (ap (λ n. 1 + n) (or_len_at t es i h.1) ∙ omega arith)

pub position_at : (t : List ℕ) (es : List (Key × Lines)) (i : ℕ) → IsAt t es i → position (is_text t) (keys_of es) ≡ Some i
position_at t es i h =
    let o = or_len_at t es i h in
    let w = at_within t es i h in
    let l = length-map es (λ (e : Key × Lines). e.0) in
    ap (λ k. cond (nat_lt k (length (keys_of es))) (Some k) None) o ∙ ap (λ b. cond b (Some i) None) (lt-ltb i (length (keys_of es)) (omega arith))

swap_last : {X : Type 0} (xs : List X) (i : ℕ) (x d : X) → i < length xs → swap_remove (xs ++ x ∷ []) i d ≡ slice_set xs i x
swap_last xs i x d h =
    let more = length_push xs x in
    let last : length (xs ++ x ∷ []) - 1 ≡ length xs = omega (arith, more) in
    (λ j. take (last j) (slice_set (xs ++ x ∷ []) i (slice_index_or (xs ++ x ∷ []) (last j) d)))
    ∙ ap (λ y. take (length xs) (slice_set (xs ++ x ∷ []) i y)) (get_or_push xs x d (length xs) refl)
    ∙ ap (take (length xs)) (set-append_left xs (x ∷ []) i x h)
    ∙ take_at (slice_set xs i x) (x ∷ []) (length xs) (length-set xs i x)

pub swapped_in : (t : List ℕ) (es : List (Key × Lines)) (i : ℕ) (x : Key × Lines) (E : Key → Bool) → IsAt t es i
    → position E (keys_of (es ++ x ∷ [])) ≡ position (is_text t) (keys_of (es ++ x ∷ []))
    → swap_remove_entry E (es ++ x ∷ []) ≡ slice_set es i x
swapped_in t [] i x E h p = absurd h
swapped_in t (e ∷ es) i x E h p =
    rw (p ∙ position_at t ((e ∷ es) ++ x ∷ []) i (at_more t (e ∷ es) i x h)) (swap_last (e ∷ es) i x e (at_within t (e ∷ es) i h))

-- a new key goes last, and then into the slot of the one that goes
pub slot_given : (h : DefaultHasher) (q key : Key) (w : Lines) (es more less : List (Key × Lines)) (i : ℕ) → IsHashed h q → IsHashed h key
    → AreHashed h es → IsAt (string_bytes q.text) es i → is_some (lookup (is_text (string_bytes key.text)) es) ≡ false
    → more ≡ insert_entry key_eq es key w → less ≡ swap_remove_entry (key_eq q) more → less ≡ slice_set es i (key, w)
slot_given h q key w es more less i hq hk hs at absent m l =
    l ∙ (ap (swap_remove_entry (key_eq q)) (m ∙ insert_last key w es absent)
    ∙ swapped_in (string_bytes q.text) es i (key, w) (key_eq q) at (position_as h q (es ++ (key, w) ∷ []) hq (hashed_last h es (key, w) hs hk)))

-- ---- an entry without lines in a slot that was given up changes nothing

pub entries_dead : (es : List (Key × Lines)) (i : ℕ) (x : Key × Lines) → flag_at es i ≡ 0 → is_live x ≡ false
    → entries_of (slice_set es i x) ≡ entries_of es
entries_dead [] i x f n = refl
entries_dead (e ∷ es) zero x f n = rw (n, flag_false e f) refl
entries_dead (e ∷ es) (suc i) x f n =
    let rest = entries_dead es i x f n in
    elim (is_live e) as (λ b. map entry_of (cond b (e ∷ filter is_live (slice_set es i x)) (filter is_live (slice_set es i x)))
    ≡ map entry_of (cond b (e ∷ filter is_live es) (filter is_live es))) [
      | true ↦ ap (λ l. entry_of e ∷ l) rest
      | false ↦ rest
    ]

gaps_dead : (es : List (Key × Lines)) (i k : ℕ) (x : Key × Lines) → flag_at es i ≡ 0 → is_live x ≡ false
    → gaps (slice_set es i x) k ≡ gaps es k
gaps_dead [] i k x f n = refl
gaps_dead (e ∷ es) zero zero x f n = refl
gaps_dead (e ∷ es) zero (suc k) x f n = rw (n, flag_false e f) refl
gaps_dead (e ∷ es) (suc i) zero x f n = refl
gaps_dead (e ∷ es) (suc i) (suc k) x f n = ap (λ m. cond (is_live e) 0 1 + m) (gaps_dead es i k x f n)

pub kept_dead : {h : DefaultHasher} {es : List (Key × Lines)} {m : Moves} {live : ℕ} → IsKept h es m live → (i : ℕ) (x : Key × Lines)
    → IsHashed h x.0 → flag_at es i ≡ 0 → is_live x ≡ false → IsKept h (slice_set es i x) m live
kept_dead {h} {es} kept i x a f n = kept_as kept (slice_set es i x) (hashed_slot h es i x kept.hashed a) (length-set es i x) (λ k. gaps_dead es i k x f n)

pub on_ok : {A E : Type 0} {P Q : Type 0} (r : Result A E) → OnOk r P → (P → Q) → OnOk r Q
on_ok (Ok a) h f = f h
on_ok (Err e) h f = h

-- ---- each target once

apart_live : (t : List ℕ) (es : List (Key × Lines)) → AllByRecursion (λ y. is_text t y ≡ false) (keys_of es)
    → AllByRecursion (λ u. bytes_eq t u ≡ false) (map (λ (e : Entry). e.target) (entries_of es))
apart_live t [] h = tt
apart_live t (e ∷ es) h =
    let rest = apart_live t es h.1 in
    elim (is_live e) as (λ b. AllByRecursion (λ u. bytes_eq t u ≡ false) (map (λ (e : Entry). e.target) (map entry_of (cond b (e ∷ filter is_live es) (filter
    is_live es))))) [ true ↦ (h.0, rest) | false ↦ rest ]

pub once_live : (h : DefaultHasher) (es : List (Key × Lines)) → AreHashed h es → IsDistinct key_eq (keys_of es)
    → IsDistinct bytes_eq (map (λ (e : Entry). e.target) (entries_of es))
unfolding IsDistinct
once_live h [] hs d = tt
once_live h (e ∷ es) hs d =
    let rest = once_live h es hs.1 d.1 in
    let t = string_bytes e.0.text in
    elim (is_live e) as (λ b. IsDistinct bytes_eq (map (λ (e : Entry). e.target) (map entry_of (cond b (e ∷ filter is_live es) (filter is_live es))))) [
      | true ↦ (apart_live t es (apart_text h t e.0 (same t) hs.0 es hs.1 d.0), rest)
      | false ↦ rest
    ]
