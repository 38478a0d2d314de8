-- Dot removal leaves no dot segment, and a path without one as it is.
use Rattle.iri_normal.proofs.Common.{or_parts, lacks, by_test, both, starts_with_slash, pieces, onto, is_dot_segment, any_dot_segment}
use Rattle.iri_normal.proofs.Common.{has_dot_segment, is_two_dots, closed, remove_after, remove_dots, path_text, dots, guard, ◌≡◌, ℕ, Bool}
use Rattle.iri_normal.proofs.Common.{true, false, cond, not, ◌&&◌, List, [], ◌∷◌, ◌++◌, refl, sym, ◌∙◌, ap, append_assoc, append-nil}
use Rattle.iri_normal.proofs.removal.Output.{is_output, left, output-push, output-left, output-closed}
use Rattle.iri_normal.proofs.segments.DotKinds.{all_lack, pieces-some, pieces-append, pieces-whole, pieces-lack, nothing-is_no_dot}

-- ---- none is left
plain-left : (two : Bool) (st : List (List ℕ)) → any_dot_segment st ≡ false → any_dot_segment (left two st) ≡ false
plain-left true [] h = rw nothing-is_no_dot refl
plain-left true (s ∷ []) h = rw nothing-is_no_dot refl
plain-left true (s ∷ t ∷ ss) h = (or_parts (is_dot_segment s) (any_dot_segment (t ∷ ss)) h).1
plain-left false st h = h

plain-closed : (ss st : List (List ℕ)) → any_dot_segment st ≡ false → any_dot_segment (closed ss st) ≡ false
plain-closed [] st h = rw nothing-is_no_dot h
plain-closed (s ∷ ss) st h = h

plain-after : (st ss : List (List ℕ)) → any_dot_segment st ≡ false → any_dot_segment (remove_after st ss) ≡ false
plain-after st [] h = h
plain-after st (s ∷ ss) h =
    elim (is_dot_segment s) as (λ b. is_dot_segment s ≡ b
    → any_dot_segment (cond b (remove_after (closed ss (left (is_two_dots s) st)) ss) (remove_after (s ∷ st) ss)) ≡ false) [
      | true ↦ λ _. plain-after (closed ss (left (is_two_dots s) st)) ss
          (plain-closed ss (left (is_two_dots s) st) (plain-left (is_two_dots s) st h))
      | false ↦ λ e. plain-after (s ∷ st) ss (rw e h)
    ] refl

plain-removed : (ss : List (List ℕ)) → any_dot_segment (remove_dots ss) ≡ false
plain-removed [] = rw nothing-is_no_dot refl
plain-removed (s ∷ ss) =
    elim (is_dot_segment s) as (λ b. is_dot_segment s ≡ b → any_dot_segment (cond b (remove_dots ss) (remove_after (s ∷ []) ss)) ≡ false) [
      | true ↦ λ _. plain-removed ss
      | false ↦ λ e. plain-after (s ∷ []) ss (rw e refl)
    ] refl

pub output-after : (st ss : List (List ℕ)) → is_output st ≡ true → all_lack ss ≡ true → is_output (remove_after st ss) ≡ true
output-after st [] h k = h
output-after st (s ∷ ss) h k =
    let parts = both (lacks 47 s) (all_lack ss) k in
    elim (is_dot_segment s) as (λ b. is_output (cond b (remove_after (closed ss (left (is_two_dots s) st)) ss)
    (remove_after (s ∷ st) ss)) ≡ true) [
      | true ↦ output-after (closed ss (left (is_two_dots s) st)) ss
          (output-closed ss (left (is_two_dots s) st) (output-left (is_two_dots s) st h)) parts.1
      | false ↦ output-after (s ∷ st) ss (output-push s st parts.0 h) parts.1
    ]

pub output-removed : (ss : List (List ℕ)) → all_lack ss ≡ true → is_output (remove_dots ss) ≡ true
output-removed [] h = refl
output-removed (s ∷ ss) h =
    let parts = both (lacks 47 s) (all_lack ss) h in
    elim (is_dot_segment s) as (λ b. is_output (cond b (remove_dots ss) (remove_after (s ∷ []) ss)) ≡ true) [
      | true ↦ output-removed ss parts.1
      | false ↦ output-after (s ∷ []) ss (rw parts.0 refl) parts.1
    ]

any-append : (xs ys : List (List ℕ)) → any_dot_segment xs ≡ false → any_dot_segment ys ≡ false → any_dot_segment (xs ++ ys) ≡ false
any-append [] ys h k = k
any-append (x ∷ xs) ys h k = let n = or_parts (is_dot_segment x) (any_dot_segment xs) h in rw n.0 (any-append xs ys n.1 k)

plain-text : (st : List (List ℕ)) → is_output st ≡ true → any_dot_segment st ≡ false → has_dot_segment (path_text st) ≡ false
plain-text [] h k = rw nothing-is_no_dot refl
plain-text (s ∷ []) h k = rw (pieces-whole s (both (lacks 47 s) true h).0) k
plain-text (s ∷ t ∷ ss) h k =
    let parts = both (lacks 47 s) (all_lack (t ∷ ss)) h in
    let n = or_parts (is_dot_segment s) (any_dot_segment (t ∷ ss)) k in
    ap any_dot_segment (pieces-append (path_text (t ∷ ss)) s)
    ∙ any-append (pieces 47 (path_text (t ∷ ss))) (pieces 47 s) (plain-text (t ∷ ss) parts.1 n.1) (rw (pieces-whole s parts.0, n.0) refl)

pub no_dots_left : (p : List ℕ) → has_dot_segment (dots p) ≡ false
unfolding dots
no_dots_left p = plain-text (remove_dots (pieces 47 p)) (output-removed (pieces 47 p) (pieces-lack p)) (plain-removed (pieces 47 p))

-- ---- a path without dot segments stays
-- segments, each with a slash before it
abbrev pub slashed : List (List ℕ) → List ℕ
slashed [] = []
slashed (s ∷ ss) = 47 ∷ (s ++ slashed ss)

abbrev pub unsplit : List (List ℕ) → List ℕ
unsplit [] = []
unsplit (s ∷ ss) = s ++ slashed ss

unsplit-onto : (x : ℕ) (ss : List (List ℕ)) → unsplit (onto x ss) ≡ x ∷ unsplit ss
unsplit-onto x [] = refl
unsplit-onto x (s ∷ ss) = refl

slashed-some : (xs : List ℕ) → slashed (pieces 47 xs) ≡ 47 ∷ unsplit (pieces 47 xs)
slashed-some xs = let r = pieces-some xs in rw r.whole refl

pub unsplit-pieces : (xs : List ℕ) → unsplit (pieces 47 xs) ≡ xs
unsplit-pieces [] = refl
unsplit-pieces (x ∷ xs) =
    by_test x 47 (λ b. unsplit (cond b ([] ∷ pieces 47 xs) (onto x (pieces 47 xs))) ≡ x ∷ xs)
    (λ e. slashed-some xs ∙ (ap (λ ys. 47 ∷ ys) (unsplit-pieces xs) ∙ ap (λ y. y ∷ xs) (sym e)))
    (λ _. unsplit-onto x (pieces 47 xs) ∙ ap (λ ys. x ∷ ys) (unsplit-pieces xs))

same-after : (t : List ℕ) (st ss : List (List ℕ)) → any_dot_segment ss ≡ false
    → path_text (remove_after (t ∷ st) ss) ≡ path_text (t ∷ st) ++ slashed ss
same-after t st [] h = sym (append-nil (path_text (t ∷ st)))
same-after t st (s ∷ ss) h =
    let n = or_parts (is_dot_segment s) (any_dot_segment ss) h in
    rw n.0 (same-after s (t ∷ st) ss n.1 ∙ append_assoc (path_text (t ∷ st)) (47 ∷ s) (slashed ss))

same-removed : (ss : List (List ℕ)) → any_dot_segment ss ≡ false → path_text (remove_dots ss) ≡ unsplit ss
same-removed [] h = refl
same-removed (s ∷ ss) h =
    let n = or_parts (is_dot_segment s) (any_dot_segment ss) h in rw n.0 (same-after s [] ss n.1)

pub no_dots_same : (p : List ℕ) → has_dot_segment p ≡ false → dots p ≡ p
unfolding dots
no_dots_same p h = same-removed (pieces 47 p) h ∙ unsplit-pieces p

pub dots-stable : (p : List ℕ) → dots (dots p) ≡ dots p
dots-stable p = no_dots_same (dots p) (no_dots_left p)

-- ---- the guard
pub dot_before : (q : List ℕ) → dots (47 ∷ 46 ∷ 47 ∷ q) ≡ dots (47 ∷ q)
unfolding dots is_dot_segment
dot_before q = let r = pieces-some q in rw r.whole refl

pub guard-dots : (q : List ℕ) (stands : Bool) → dots (guard q stands) ≡ dots q
guard-dots [] true = refl
guard-dots [] false = refl
guard-dots (x ∷ xs) true = refl
guard-dots (x ∷ xs) false =
    by_test x 47 (λ b. dots (cond (not (b && starts_with_slash xs)) (x ∷ xs) (47 ∷ 46 ∷ x ∷ xs)) ≡ dots (x ∷ xs))
    (λ e. elim (starts_with_slash xs) as (λ b. dots (cond (not b) (x ∷ xs) (47 ∷ 46 ∷ x ∷ xs))
    ≡ dots (x ∷ xs)) [ true ↦ rw e (dot_before xs) | false ↦ refl ])
    (λ _. refl)

pub guarded_stable : (p : List ℕ) (stands : Bool) → dots (guard (dots p) stands) ≡ dots p
guarded_stable p stands = guard-dots (dots p) stands ∙ dots-stable p
