-- Matching and fits.
use Rattle.iri_robots.proofs.Common.{◌≡◌, ◌≢◌, ◌↔◌, ℕ, Bool, true, false, cond, List, [], ◌∷◌, ◌++◌, refl, sym, ◌∙◌, ap, subst}
use Rattle.iri_robots.proofs.Common.{append_assoc, inl, inr, eqb_tells, ◌==◌, is_anchored, without_anchor, IsFilledBy, Matches, Fits}
use Rattle.iri_robots.specs.Patterns.{IsFilling, nothing, escaped_star, escaped_dollar, HasFilledPrefix, star as fill_star}
use Rattle.iri_robots.specs.Patterns.{same as fill_same}
use Rattle.iri_robots.specs.inside.Fits.{IsEscape, star_escape, dollar_escape, ended, star, escaped, same}

filled_escape : (l m : ℕ) (q s : List ℕ) → IsEscape l m → IsFilling q s → IsFilling (37 ∷ 50 ∷ l ∷ q) (m ∷ s)
filled_escape l m q s star_escape f = escaped_star q s f
filled_escape l m q s dollar_escape f = escaped_dollar q s f

pub fits_filling : (q s : List ℕ) → Fits true q s → IsFilling q s
fits_filling q s (ended s' h) = let P : List ℕ → Type 0 = λ x. IsFilling [] x in subst P (sym (h refl)) nothing
fits_filling q s (star t q' s' f) = fill_star t q' s' (fits_filling q' s' f)
fits_filling q s (escaped l m q' s' e f) = filled_escape l m q' s' e (fits_filling q' s' f)
fits_filling q s (same c q' s' h f) = fill_same c q' s' h (fits_filling q' s' f)

pub filling_fits : (q s : List ℕ) → IsFilling q s → Fits true q s
filling_fits q s nothing = ended [] (λ _. refl)
filling_fits q s (fill_star t q' s' f) = star t q' s' (filling_fits q' s' f)
filling_fits q s (escaped_star q' s' f) = escaped 65 42 q' s' star_escape (filling_fits q' s' f)
filling_fits q s (escaped_dollar q' s' f) = escaped 52 36 q' s' dollar_escape (filling_fits q' s' f)
filling_fits q s (fill_same c q' s' h f) = same c q' s' h (filling_fits q' s' f)

longer : (q q' s : List ℕ) (t : List ℕ) → HasFilledPrefix q s → ((u : List ℕ) → IsFilling q u → IsFilling q' (t ++ u))
    → HasFilledPrefix q' (t ++ s)
longer q q' s t k f = record {
  prefix = t ++ k.prefix;
  rest = k.rest;
  split = ap (λ x. t ++ x) k.split
      ∙ sym (append_assoc t k.prefix k.rest);
  filled = f k.prefix k.filled;
}

pub fits_prefix : (q s : List ℕ) → Fits false q s → HasFilledPrefix q s
fits_prefix q s (ended s' h) = record { prefix = []; rest = s'; split = refl; filled = nothing }
fits_prefix q s (star t q' s' f) = longer q' (42 ∷ q') s' t (fits_prefix q' s' f) (λ u g. fill_star t q' u g)
fits_prefix q s (escaped l m q' s' e f) = longer q' (37 ∷ 50 ∷ l ∷ q') s' (m ∷ []) (fits_prefix q' s' f) (λ u g. filled_escape l m q' u e g)
fits_prefix q s (same c q' s' h f) = longer q' (c ∷ q') s' (c ∷ []) (fits_prefix q' s' f) (λ u g. fill_same c q' u h g)

filled_fits : (q t r : List ℕ) → IsFilling q t → Fits false q (t ++ r)
filled_fits q t r nothing = ended r (λ e. cc)
filled_fits q t r (fill_star u q' s' f) = let P : List ℕ → Type 0 = λ x. Fits false (42 ∷ q') x in subst P (sym (append_assoc u s' r)) (star
    u q' (s' ++ r) (filled_fits q' s' r f))
filled_fits q t r (escaped_star q' s' f) = escaped 65 42 q' (s' ++ r) star_escape (filled_fits q' s' r f)
filled_fits q t r (escaped_dollar q' s' f) = escaped 52 36 q' (s' ++ r) dollar_escape (filled_fits q' s' r f)
filled_fits q t r (fill_same c q' s' h f) = same c q' (s' ++ r) h (filled_fits q' s' r f)

pub prefix_fits : (q s : List ℕ) → HasFilledPrefix q s → Fits false q s
prefix_fits q s k = let P : List ℕ → Type 0 = λ x. Fits false q x in subst P (sym k.split) (filled_fits q k.prefix k.rest k.filled)

-- ---- the `$` at the end

anchored_end : (q : List ℕ) → is_anchored (q ++ 36 ∷ []) ≡ true
anchored_end [] = refl
anchored_end (c ∷ []) = refl
anchored_end (c ∷ d ∷ q) = anchored_end (d ∷ q)

without_end : (q : List ℕ) → without_anchor (q ++ 36 ∷ []) ≡ q
without_end [] = refl
without_end (c ∷ []) = refl
without_end (c ∷ d ∷ q) = ap (λ x. c ∷ x) (without_end (d ∷ q))

open_end : (q : List ℕ) (x : ℕ) → (x == 36) ≡ false → is_anchored (q ++ x ∷ []) ≡ false
open_end [] x h = h
open_end (c ∷ []) x h = h
open_end (c ∷ d ∷ q) x h = open_end (d ∷ q) x h

whole_end : (q : List ℕ) (x : ℕ) → (x == 36) ≡ false → without_anchor (q ++ x ∷ []) ≡ q ++ x ∷ []
whole_end [] x h = ap (λ b. cond b [] (x ∷ [])) h
whole_end (c ∷ []) x h = ap (λ b. c ∷ cond b [] (x ∷ [])) h
whole_end (c ∷ d ∷ q) x h = ap (λ y. c ∷ y) (whole_end (d ∷ q) x h)

some_end : (q : List ℕ) (x : ℕ) → q ++ x ∷ [] ≢ []
some_end [] x e = cc
some_end (c ∷ q) x e = cc

filled_as : (p q s : List ℕ) (a : Bool) → is_anchored p ≡ a → without_anchor p ≡ q → p ≢ [] → IsFilledBy a q s ↔ Matches p s
filled_as p q s a e d n =
    let P : Bool → Type 0 = λ x. IsFilledBy x q s in
    let Q : List ℕ → Type 0 = λ x. IsFilledBy (is_anchored p) x s in
    (λ f. record { some = n; filled = subst Q (sym d) (subst P (sym e) f) }, λ m. subst P e (subst Q d m.filled))

pub matches_anchored : (b : Bool) (p q s : List ℕ) → p ≡ q ++ 36 ∷ [] → (b ≡ true) ↔ Fits true q s → (b ≡ true) ↔ Matches p s
matches_anchored b p q s e r =
    let P : List ℕ → Type 0 = λ x. Matches x s in
    let k = filled_as (q ++ 36 ∷ []) q s true (anchored_end q) (without_end q) (some_end q 36) in
    (λ h. subst P (sym e) (k.0 (fits_filling q s (r.0 h))), λ m. r.1 (filling_fits q s (k.1 (subst P e m))))

pub matches_prefix : (b : Bool) (p q s : List ℕ) (x : ℕ) → p ≡ q ++ x ∷ [] → (x == 36) ≡ false → (b ≡ true) ↔ Fits false p s
    → (b ≡ true) ↔ Matches p s
matches_prefix b p q s x e n r =
    let P : List ℕ → Type 0 = λ y. Matches y s in
    let F : List ℕ → Type 0 = λ y. HasFilledPrefix y s in
    let k = filled_as (q ++ x ∷ []) (q ++ x ∷ []) s false (open_end q x n) (whole_end q x n) (some_end q x) in
    (λ h. subst P (sym e) (k.0 (subst F e (fits_prefix p s (r.0 h)))), λ m. r.1 (prefix_fits p s (subst F (sym e) (k.1 (subst P e m)))))

pub apart : (a b : ℕ) → a ≢ b → (a == b) ≡ false
apart a b n = elim (eqb_tells a b) [ inl h ↦ absurd (n h.1) | inr h ↦ h.0 ]
