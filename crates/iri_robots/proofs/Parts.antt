-- The parts of a pattern, as the code reads them.
use Rattle.std.proofs.Common.{◌≡◌, ◌≢◌, ◌↔◌, ℕ, zero, suc, ◌<◌, ◌≤◌, Bool, true, false, List, [], ◌∷◌, length, drop, slice_index, sym, ◌∙◌}
use Rattle.std.proofs.Common.{ap, subst, arith, length-drop, eqb-true}
use Rattle.std.specs.Prelude.{◌==◌}
use Rattle.std.proofs.lemmas.List.{nil_from_length}
use Rattle.iri_robots.specs.inside.Fits.{IsEscape, Fits, ended, MovesOn, EscapeOf, NoEscape, FitsNot, Sticks, Takes, StopsAtStar}
use Rattle.iri_robots.proofs.Moves.{moves_special, moves_triplet, moves_same, stuck_escape, stops, moves_both, star_takes, star_more}

three : (q : List ℕ) (a b l : ℕ) → 3 ≤ length q → slice_index q 0 ≡ a → slice_index q 1 ≡ b → slice_index q 2 ≡ l → q ≡ a ∷ b ∷ l ∷ drop 3 q
three [] a b l n h k m = absurd (omega arith)
three (x ∷ []) a b l n h k m = absurd (omega arith)
three (x ∷ y ∷ []) a b l n h k m = absurd (omega arith)
three (x ∷ y ∷ z ∷ q) a b l n h k m = cc

one : (q : List ℕ) (a : ℕ) → 0 < length q → slice_index q 0 ≡ a → q ≡ a ∷ drop 1 q
one [] a n h = absurd (omega arith)
one (x ∷ q) a n h = cc

pub escape_here : (q : List ℕ) (l m : ℕ) → IsEscape l m → 3 ≤ length q → slice_index q 0 ≡ 37 → slice_index q 1 ≡ 50
    → slice_index q 2 ≡ l → EscapeOf q m
escape_here q l m e n h k p = record { letter = l; rest = drop 3 q; is_escape = e; text = three q 37 50 l n h k p }

pub takes_special : (q s : List ℕ) (m : ℕ) → EscapeOf q m → 0 < length s → slice_index s 0 ≡ m → Takes q s 3 1
takes_special q s m e n h =
    let t = one s m n h in
    let P : List ℕ → Type 0 = λ x. Takes x s 3 1 in
    let Q : List ℕ → Type 0 = λ x. Takes (37 ∷ 50 ∷ e.letter ∷ e.rest) x 3 1 in
    subst P (sym e.text) (subst Q (sym t) (record {
      moves = λ a. moves_special a e.letter m e.rest (drop 1 s) e.is_escape;
      some = omega arith;
      in_pattern = omega arith;
      in_text = omega arith;
    }))

third : (q : List ℕ) (m : ℕ) → (e : EscapeOf q m) → slice_index q 2 ≡ e.letter
third q m e = ap (λ x. slice_index x 2) e.text

pub takes_triplet : (q s : List ℕ) (m : ℕ) → EscapeOf q m → 3 ≤ length s → slice_index s 0 ≡ 37 → slice_index s 1 ≡ 50
    → slice_index s 2 ≡ slice_index q 2 → Takes q s 3 3
takes_triplet q s m e n h k p =
    let t = three s 37 50 e.letter n h k (p ∙ third q m e) in
    let P : List ℕ → Type 0 = λ x. Takes x s 3 3 in
    let Q : List ℕ → Type 0 = λ x. Takes (37 ∷ 50 ∷ e.letter ∷ e.rest) x 3 3 in
    subst P (sym e.text) (subst Q (sym t) (record {
      moves = λ a. moves_triplet a e.letter m e.rest (drop 3 s) e.is_escape;
      some = omega arith;
      in_pattern = omega arith;
      in_text = omega arith;
    }))

pub escape_sticks : (q s : List ℕ) (m : ℕ) → EscapeOf q m → slice_index s 0 ≢ m → ((l : ℕ) (t : List ℕ) → l ≡ slice_index q 2
    → s ≡ 37 ∷ 50 ∷ l ∷ t → ⊥) → Sticks q s
escape_sticks q s m e h k a =
    let P : List ℕ → Type 0 = λ x. FitsNot a x s in
    subst P (sym e.text) (stuck_escape a e.letter m e.rest s e.is_escape (λ t p. h (ap (λ x. slice_index x 0) p)) (λ t p. k e.letter t (sym
    (third q m e)) p))

pub takes_same : (q s : List ℕ) → NoEscape q → slice_index q 0 ≢ 42 → 0 < length q → 0 < length s → slice_index s 0 ≡ slice_index q 0
    → Takes q s 1 1
takes_same [] s n h k l p = absurd (omega arith)
takes_same (c ∷ q) [] n h k l p = absurd (omega arith)
takes_same (c ∷ q) (x ∷ s) n h k l p =
    let P : ℕ → Type 0 = λ y. Takes (c ∷ q) (y ∷ s) 1 1 in
    subst P (sym p) (record {
      moves = λ a. moves_same a c q s h n;
      some = omega arith;
      in_pattern = omega arith;
      in_text = omega arith;
    })

-- ---- the test of being empty

pub some_left : (n : ℕ) → (n == 0) ≡ false → 0 < n
some_left zero h = cc
some_left (suc n) h = omega arith

pub none_left : (s : List ℕ) → (length s == 0) ≡ true → s ≡ []
none_left s h = nil_from_length s (eqb-true (length s) 0 h)

-- ---- up to a `*`

pub star_reached : (a : Bool) (q s p t r : List ℕ) → MovesOn a q s p t → length p ≤ length q → length t ≤ length s → 0 < length p
    → slice_index p 0 ≡ 42 → r ≡ drop 1 p → StopsAtStar a q s r t
star_reached a q s [] t r h m n k e d = absurd (omega arith)
star_reached a q s (x ∷ p) t r h m n k e d =
    let P : List ℕ → Type 0 = λ z. StopsAtStar a q s z t in
    let Q : ℕ → Type 0 = λ z. MovesOn a q s (z ∷ p) t in
    subst P (sym d) (stops a q s p t (subst Q e h) (omega arith) n)

pub part_taken : (a : Bool) (q s p t p' t' : List ℕ) (i j : ℕ) → MovesOn a q s p t → Takes p t i j → p' ≡ drop i p → t' ≡ drop j t
    → MovesOn a q s p' t'
part_taken a q s p t p' t' i j h k d e =
    let P : List ℕ → Type 0 = λ z. MovesOn a q s z t' in
    let Q : List ℕ → Type 0 = λ z. MovesOn a q s (drop i p) z in
    subst P (sym d) (subst Q (sym e) (moves_both a q s p t (drop i p) (drop j t) h (k.moves a)))

pub no_longer : (p p' q : List ℕ) (i : ℕ) → p' ≡ drop i p → length p ≤ length q → length p' ≤ length q
no_longer p p' q i e h = omega (arith, ap length e, length-drop i p)

pub reached_end : (a : Bool) (q s p t : List ℕ) → MovesOn a q s p t → (length p == 0) ≡ true → (a ≡ true → (length t == 0) ≡ true)
    → Fits a q s
reached_end a q s p t h e k =
    let P : List ℕ → Type 0 = λ z. Fits a z t in
    h.back (subst P (sym (none_left p e)) (ended t (λ x. none_left t (k x))))

pub stuck_here : (a : Bool) (q s p t : List ℕ) → MovesOn a q s p t → Sticks p t → FitsNot a q s
stuck_here a q s p t h k = record { none = λ f. (k a).none (h.onward f) }

-- ---- after a `*`

pub star_moves : (a : Bool) (q s t : List ℕ) → FitsNot a q s → 0 < length s → t ≡ drop 1 s → Fits a (42 ∷ q) s ↔ Fits a (42 ∷ q) t
star_moves a q [] t n k e = absurd (omega arith)
star_moves a q (x ∷ s) t n k e =
    let P : List ℕ → Type 0 = λ z. Fits a (42 ∷ q) z in
    (λ f. subst P (sym e) (star_takes a q s x n f), λ f. star_more a q s x (subst P e f))
