-- Patterns that the second byte of a text tells not to match.
use Rattle.iri_robots.proofs.Common.{◌≡◌, ◌≢◌, ℕ, ◌≤◌, Bool, true, false, cond, List, [], ◌∷◌, length, refl, sym, ◌∙◌, ap, subst, arith}
use Rattle.iri_robots.proofs.Common.{is_anchored, without_anchor, IsFilledBy, Matches, Fits}
use Rattle.std.proofs.Common.{slice_index}
use Rattle.iri_robots.specs.inside.SecondBytes.{second_of, IsApart}
use Rattle.iri_robots.proofs.Anchors.{apart, filling_fits, prefix_fits}
use Rattle.iri_robots.proofs.Moves.{plain_prefix}

pub second_short : (s : List ℕ) → length s ≤ 1 → 42 ≡ second_of s
second_short [] h = refl
second_short (x ∷ []) h = refl
second_short (x ∷ y ∷ s) h = absurd (omega arith)

pub second_long : (s : List ℕ) → 2 ≤ length s → slice_index s 1 ≡ second_of s
second_long [] h = absurd (omega arith)
second_long (x ∷ []) h = absurd (omega arith)
second_long (x ∷ y ∷ s) h = refl

fits_second : (a : Bool) (b : ℕ) (q s : List ℕ) → b ≢ 42 → b ≢ 37 → Fits a (47 ∷ b ∷ q) s → second_of s ≡ b
fits_second a b q s n k f =
    let u = plain_prefix a 47 (b ∷ q) s (λ e. omega arith) (λ e. omega arith) f in
    let v = plain_prefix a b q u.0 n k u.2 in
    ap second_of (u.1 ∙ ap (λ t. 47 ∷ t) v.1)

-- a `$` at the end is not the second byte
after_slash : (b : ℕ) (p : List ℕ) → b ≢ 36 → (q : List ℕ) × (without_anchor (b ∷ p) ≡ b ∷ q)
after_slash b [] n = ([], ap (λ x. cond x [] (b ∷ [])) (apart b 36 n))
after_slash b (d ∷ p) n = (without_anchor (d ∷ p), refl)

filled_fits : (a : Bool) (q s : List ℕ) → IsFilledBy a q s → Fits a q s
filled_fits true q s f = filling_fits q s f
filled_fits false q s f = prefix_fits q s f

matched_second : (b : ℕ) (p s : List ℕ) → b ≢ 42 → b ≢ 37 → b ≢ 36 → Matches (47 ∷ b ∷ p) s → second_of s ≡ b
matched_second b p s n k d m =
    let a = is_anchored (47 ∷ b ∷ p) in
    let q = after_slash b p d in
    fits_second a b q.0 s n k (subst (λ t. Fits a (47 ∷ t) s) q.1 (filled_fits a (47 ∷ without_anchor (b ∷ p)) s m.filled))

pub apart_by : (p : List ℕ) (second : ℕ) → 2 ≤ length p → slice_index p 0 ≡ 47 → slice_index p 1 ≢ second → slice_index p 1 ≢ 42
    → slice_index p 1 ≢ 37 → slice_index p 1 ≢ 36 → IsApart p second
apart_by [] second l e d n k o s h m = absurd (omega arith)
apart_by (x ∷ []) second l e d n k o s h m = absurd (omega arith)
apart_by (x ∷ b ∷ p) second l e d n k o s h m =
    d (sym (matched_second b p s n k o (subst (λ y. Matches (y ∷ b ∷ p) s) e m)) ∙ sym h)
