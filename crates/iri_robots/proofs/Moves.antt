-- How the search for a filling moves on.
use Rattle.std.proofs.Common.{◌≡◌, ◌≢◌, ℕ, ◌<◌, ◌≤◌, Bool, true, List, [], ◌∷◌, ◌++◌, length, refl, sym, ◌∙◌, ap, subst, arith}
use Rattle.iri_robots.specs.inside.Fits.{IsEscape, star_escape, dollar_escape, Fits, ended, star, escaped, same, IsSuffix, whole, later}
use Rattle.iri_robots.specs.inside.Fits.{IsAfter, after, FitsAfter, MovesOn, StopsAtStar, NoEscape, FitsNot}

-- ---- suffixes

pub suffix_append : (t r : List ℕ) → IsSuffix r (t ++ r)
suffix_append [] r = whole r
suffix_append (x ∷ t) r = later x r (t ++ r) (suffix_append t r)

pub suffix_trans : (r s t : List ℕ) → IsSuffix r s → IsSuffix s t → IsSuffix r t
suffix_trans r s t h (whole t') = h
suffix_trans r s t h (later x s' t' k) = later x r t' (suffix_trans r s' t' h k)

pub suffix_split : (r s : List ℕ) → IsSuffix r s → (t : List ℕ) × (s ≡ t ++ r)
suffix_split r s (whole s') = ([], refl)
suffix_split r s (later x r' s' k) = let h = suffix_split r' s' k in (x ∷ h.0, ap (λ l. x ∷ l) h.1)

pub after_is_suffix : (r s : List ℕ) → IsAfter r s → IsSuffix r s
after_is_suffix r s (after x r' s' k) = later x r' s' k

pub after_more : (x : ℕ) (r s : List ℕ) → IsAfter r s → IsAfter r (x ∷ s)
after_more x r s h = after x r s (after_is_suffix r s h)

pub after_suffix : (r s t : List ℕ) → IsAfter r s → IsSuffix s t → IsAfter r t
after_suffix r s t h (whole t') = h
after_suffix r s t h (later x s' t' k) = after_more x r t' (after_suffix r s' t' h k)

pub tail_after : (y : ℕ) (r s : List ℕ) → IsSuffix (y ∷ r) s → IsAfter r s
tail_after y r s h = after_suffix r (y ∷ r) s (after y r r (whole r)) h

pub after_rest : (x : ℕ) (r s : List ℕ) → IsAfter r (x ∷ s) → IsSuffix r s
after_rest x r s (after x' r' s' k) = k

pub after_tail : (x y : ℕ) (r s : List ℕ) → IsAfter (y ∷ r) (x ∷ s) → IsAfter r s
after_tail x y r s h = tail_after y r s (after_rest x (y ∷ r) s h)

suffix_cases : (m x : ℕ) (t r s : List ℕ) → m ≢ x → r ≡ m ∷ t → IsSuffix r (x ∷ s) → IsSuffix r s
suffix_cases m x t r s n e (whole s') = absurd (n (cc))
suffix_cases m x t r s n e (later x' r' s' k) = k

-- ---- what a fit is made of

pub data FitsPrefix (anchored : Bool) (c : ℕ) (q s : List ℕ) : Type 0 where
  by_same : (t : List ℕ) → s ≡ c ∷ t → Fits anchored q t → FitsPrefix anchored c q s
  by_escape : (l m : ℕ) (q' t : List ℕ) → IsEscape l m → c ≡ 37 → q ≡ 50 ∷ l ∷ q' → s ≡ m ∷ t → Fits anchored q' t
      → FitsPrefix anchored c q s

pub fits_prefix : (a : Bool) (c : ℕ) (q s : List ℕ) → c ≢ 42 → Fits a (c ∷ q) s → FitsPrefix a c q s
fits_prefix a c q s n (star t q' s' f) = absurd (n refl)
fits_prefix a c q s n (escaped l m q' s' e f) = by_escape l m q' s' e refl refl refl f
fits_prefix a c q s n (same c' q' s' h f) = by_same s' refl f

pub fits_end : (a : Bool) (s : List ℕ) → Fits a [] s → a ≡ true → s ≡ []
fits_end a s (ended s' h) e = h e

-- what follows a `*` fits somewhere
pub record FitsLater (a : Bool) (q s : List ℕ) : Type 0 where
  pub rest : List ℕ
  pub is_suffix : IsSuffix rest s
  pub fits : Fits a q rest

star_prefix : (a : Bool) (c : ℕ) (q s : List ℕ) → c ≡ 42 → Fits a (c ∷ q) s → FitsLater a q s
star_prefix a c q s n (star t q' s' f) = record { rest = s'; is_suffix = suffix_append t s'; fits = f }
star_prefix a c q s n (escaped l m q' s' e f) = absurd (omega arith)
star_prefix a c q s n (same c' q' s' h f) = absurd (h n)

pub fits_star : (a : Bool) (q s : List ℕ) → Fits a (42 ∷ q) s → FitsLater a q s
fits_star a q s f = star_prefix a 42 q s refl f

pub star_fits : (a : Bool) (q r s : List ℕ) → IsSuffix r s → Fits a q r → Fits a (42 ∷ q) s
star_fits a q r s h f = let k = suffix_split r s h in subst (λ x. Fits a (42 ∷ q) x) (sym k.1) (star k.0 q r f)

pub data FitsEscape (a : Bool) (l m : ℕ) (q s : List ℕ) : Type 0 where
  by_special : (t : List ℕ) → s ≡ m ∷ t → Fits a q t → FitsEscape a l m q s
  by_triplet : (t : List ℕ) → s ≡ 37 ∷ 50 ∷ l ∷ t → Fits a q t → FitsEscape a l m q s

pub one_special : (l m n : ℕ) → IsEscape l m → IsEscape l n → m ≡ n
one_special l m n star_escape star_escape = refl
one_special l m n dollar_escape dollar_escape = refl

pub plain_prefix : (a : Bool) (c : ℕ) (q s : List ℕ) → c ≢ 42 → c ≢ 37 → Fits a (c ∷ q) s → (t : List ℕ) × (s ≡ c ∷ t) × Fits a q t
plain_prefix a c q s n k f = elim (fits_prefix a c q s n f) [
  | by_same t e g ↦ (t, e, g)
  | by_escape l m q' t e p _ _ _ ↦ absurd (k p)
]

letter_apart : (l m : ℕ) → IsEscape l m → (l ≢ 42) × (l ≢ 37) × (m ≢ 50) × (m ≢ l) × (m ≢ 37)
letter_apart l m star_escape = (λ e. omega arith, λ e. omega arith, λ e. omega arith, λ e. omega arith, λ e. omega arith)
letter_apart l m dollar_escape = (λ e. omega arith, λ e. omega arith, λ e. omega arith, λ e. omega arith, λ e. omega arith)

triplet_prefix : (a : Bool) (l m : ℕ) (q s : List ℕ) → IsEscape l m → (t : List ℕ) → s ≡ 37 ∷ t → Fits a (50 ∷ l ∷ q) t
    → FitsEscape a l m q s
triplet_prefix a l m q s e t p f =
    let n = letter_apart l m e in
    let u = plain_prefix a 50 (l ∷ q) t (λ h. omega arith) (λ h. omega arith) f in
    let v = plain_prefix a l q u.0 n.0 n.1 u.2 in
    by_triplet v.0 (p ∙ ap (λ x. 37 ∷ x) (u.1 ∙ ap (λ x. 50 ∷ x) v.1)) v.2

special_prefix : (a : Bool) (l m l' m' : ℕ) (q q' s t : List ℕ) → IsEscape l m → IsEscape l' m' → 50 ∷ l ∷ q ≡ 50 ∷ l' ∷ q' → s ≡ m' ∷ t
    → Fits a q' t → FitsEscape a l m q s
special_prefix a l m l' m' q q' s t e e' p h f =
    let same_letter : l ≡ l' = cc in
    let same_rest : q' ≡ q = cc in
    let same_special : m' ≡ m = one_special l m' m (subst (λ x. IsEscape x m') (sym same_letter) e') e in
    by_special t (h ∙ ap (λ x. x ∷ t) same_special) (subst (λ x. Fits a x t) same_rest f)

pub fits_escape : (a : Bool) (l m : ℕ) (q s : List ℕ) → IsEscape l m → Fits a (37 ∷ 50 ∷ l ∷ q) s → FitsEscape a l m q s
fits_escape a l m q s e f = elim (fits_prefix a 37 (50 ∷ l ∷ q) s (λ h. omega arith) f) [
  | by_same t p g ↦ triplet_prefix a l m q s e t p g
  | by_escape l' m' q' t e' _ p h g ↦ special_prefix a l m l' m' q q' s t e e' p h g
]

-- ---- moving on over one part of the pattern

suffix_of_escape : (l m : ℕ) (t s : List ℕ) → m ≢ 50 → m ≢ l → IsSuffix (m ∷ t) (50 ∷ l ∷ s) → IsAfter t s
suffix_of_escape l m t s n k h = tail_after m t s (suffix_cases m l t (m ∷ t) s k refl (suffix_cases m 50 t (m ∷ t) (l ∷ s) n refl h))

-- `*` for `%2A`, `$` for `%24`
after_special : (a : Bool) (l m : ℕ) (q r s : List ℕ) → IsSuffix r s → FitsEscape a l m q r → FitsAfter a q s
after_special a l m q r s h (by_special t e f) = record { rest = t; is_after = tail_after m t s (subst (λ x. IsSuffix x s) e h); fits = f }
after_special a l m q r s h (by_triplet t e f) =
    let one = after_is_suffix (50 ∷ l ∷ t) s (tail_after 37 (50 ∷ l ∷ t) s (subst (λ x. IsSuffix x s) e h)) in
    let two = after_is_suffix (l ∷ t) s (tail_after 50 (l ∷ t) s one) in
    record { rest = t; is_after = tail_after l t s two; fits = f }

onward_special : (a : Bool) (l m : ℕ) (q s : List ℕ) → IsEscape l m → FitsEscape a l m q (m ∷ s) → Fits a q s
onward_special a l m q s e (by_special t p f) = let k : t ≡ s = cc in subst (λ x. Fits a q x) k f
onward_special a l m q s e (by_triplet t p f) = let k : m ≡ 37 = cc in absurd ((letter_apart l m e).4 k)

pub moves_special : (a : Bool) (l m : ℕ) (q s : List ℕ) → IsEscape l m → MovesOn a (37 ∷ 50 ∷ l ∷ q) (m ∷ s) q s
moves_special a l m q s e = record {
  onward = λ f. onward_special a l m q s e (fits_escape a l m q (m ∷ s) e f);
  back = λ f. escaped l m q s e f;
  later = λ b. after_special a l m q b.rest s (after_rest m b.rest s b.is_after) (fits_escape a l m q b.rest e b.fits);
}

-- `%2A` for `%2A`, `%24` for `%24`
after_triplet : (a : Bool) (l m : ℕ) (q r s : List ℕ) → IsEscape l m → IsAfter r (37 ∷ 50 ∷ l ∷ s) → FitsEscape a l m q r
    → FitsAfter a q s
after_triplet a l m q r s e h (by_special t p f) =
    let n = letter_apart l m e in
    record {
      rest = t;
      is_after = suffix_of_escape l m t s n.2 n.3 (after_rest 37 (m ∷ t) (50 ∷ l ∷ s) (subst (λ x. IsAfter x (37 ∷ 50 ∷
          l ∷ s)) p h));
      fits = f;
    }
after_triplet a l m q r s e h (by_triplet t p f) =
    let one = after_tail 37 37 (50 ∷ l ∷ t) (50 ∷ l ∷ s) (subst (λ x. IsAfter x (37 ∷ 50 ∷ l ∷ s)) p h) in
    record { rest = t; is_after = after_tail l l t s (after_tail 50 50 (l ∷ t) (l ∷ s) one); fits = f }

onward_triplet : (a : Bool) (l m : ℕ) (q s : List ℕ) → IsEscape l m → FitsEscape a l m q (37 ∷ 50 ∷ l ∷ s) → Fits a q s
onward_triplet a l m q s e (by_special t p f) = let k : m ≡ 37 = cc in absurd ((letter_apart l m e).4 k)
onward_triplet a l m q s e (by_triplet t p f) = let k : t ≡ s = cc in subst (λ x. Fits a q x) k f

pub triplet_fits : (a : Bool) (l m : ℕ) (q s : List ℕ) → IsEscape l m → Fits a q s → Fits a (37 ∷ 50 ∷ l ∷ q) (37 ∷ 50 ∷ l ∷ s)
triplet_fits a l m q s e f =
    let n = letter_apart l m e in
    same 37 (50 ∷ l ∷ q) (50 ∷ l ∷ s) (λ h. omega arith) (same 50 (l ∷ q) (l ∷ s) (λ h. omega arith) (same l q s n.0 f))

pub moves_triplet : (a : Bool) (l m : ℕ) (q s : List ℕ) → IsEscape l m → MovesOn a (37 ∷ 50 ∷ l ∷ q) (37 ∷ 50 ∷ l ∷ s) q s
moves_triplet a l m q s e = record {
  onward = λ f. onward_triplet a l m q s e (fits_escape a l m q (37 ∷ 50 ∷ l ∷ s) e f);
  back = λ f. triplet_fits a l m q s e f;
  later = λ b. after_triplet a l m q b.rest s e b.is_after (fits_escape a l m q b.rest e b.fits);
}

-- every other character as it is
only_same : (a : Bool) (c : ℕ) (q s : List ℕ) → NoEscape (c ∷ q) → FitsPrefix a c q s → (t : List ℕ) × (s ≡ c ∷ t) × Fits a q t
only_same a c q s n (by_same t e f) = (t, e, f)
only_same a c q s n (by_escape l m q' t e p h g f) = absurd (n.none l m q' e (cc))

pub same_prefix : (a : Bool) (c : ℕ) (q s : List ℕ) → c ≢ 42 → NoEscape (c ∷ q) → Fits a (c ∷ q) s → (t : List ℕ) × (s ≡ c ∷ t) × Fits a q t
same_prefix a c q s h n f = only_same a c q s n (fits_prefix a c q s h f)

onward_same : (a : Bool) (c : ℕ) (q s t : List ℕ) → c ∷ s ≡ c ∷ t → Fits a q t → Fits a q s
onward_same a c q s t e f = let k : t ≡ s = cc in subst (λ x. Fits a q x) k f

after_same : (a : Bool) (c : ℕ) (q r s t : List ℕ) → r ≡ c ∷ t → IsAfter r (c ∷ s) → Fits a q t → FitsAfter a q s
after_same a c q r s t e h f = record { rest = t; is_after = after_tail c c t s (subst (λ x. IsAfter x (c ∷ s)) e h); fits = f }

pub moves_same : (a : Bool) (c : ℕ) (q s : List ℕ) → c ≢ 42 → NoEscape (c ∷ q) → MovesOn a (c ∷ q) (c ∷ s) q s
moves_same a c q s h n = record {
  onward = λ f. let k = same_prefix a c q (c ∷ s) h n f in onward_same a c q s k.0 k.1 k.2;
  back = λ f. same c q s h f;
  later = λ b. let k = same_prefix a c q b.rest h n b.fits in after_same a c q b.rest s k.0 k.1 b.is_after k.2;
}

-- ---- where it doesn't fit

no_prefix : (a : Bool) (l m : ℕ) (q s : List ℕ) → ((t : List ℕ) → s ≡ m ∷ t → ⊥) → ((t : List ℕ) → s ≡ 37 ∷ 50 ∷ l ∷ t → ⊥)
    → FitsEscape a l m q s → ⊥
no_prefix a l m q s h k (by_special t e f) = h t e
no_prefix a l m q s h k (by_triplet t e f) = k t e

pub stuck_escape : (a : Bool) (l m : ℕ) (q s : List ℕ) → IsEscape l m → ((t : List ℕ) → s ≡ m ∷ t → ⊥) → ((t : List ℕ)
    → s ≡ 37 ∷ 50 ∷ l ∷ t → ⊥) → FitsNot a (37 ∷ 50 ∷ l ∷ q) s
stuck_escape a l m q s e h k = record { none = λ f. no_prefix a l m q s h k (fits_escape a l m q s e f) }

-- ---- whole moves

pub moves_both : (a : Bool) (q s q' s' q'' s'' : List ℕ) → MovesOn a q s q' s' → MovesOn a q' s' q'' s'' → MovesOn a q s q'' s''
moves_both a q s q' s' q'' s'' h k = record {
  onward = λ f. k.onward (h.onward f);
  back = λ f. h.back (k.back f);
  later = λ b. k.later
      (h.later b);
}

after_star : (a : Bool) (q s : List ℕ) → FitsAfter a (42 ∷ q) s → Fits a (42 ∷ q) s
after_star a q s b =
    let k = fits_star a q b.rest b.fits in
    star_fits a q k.rest s (suffix_trans k.rest b.rest s k.is_suffix (after_is_suffix b.rest s b.is_after)) k.fits

from_suffix : (a : Bool) (q s q' s' r : List ℕ) → MovesOn a q s (42 ∷ q') s' → IsSuffix r s → Fits a q r → Fits a (42 ∷ q') s'
from_suffix a q s q' s' r h (whole s0) f = h.onward f
from_suffix a q s q' s' r h (later x r0 s0 k) f = after_star a q' s' (h.later (record { rest = r; is_after = after x r s0 k; fits = f }))

pub stops : (a : Bool) (q s q' s' : List ℕ) → MovesOn a q s (42 ∷ q') s' → length q' < length q → length s' ≤ length s
    → StopsAtStar a q s q' s'
stops a q s q' s' h m n = record { onward = λ r k f. from_suffix a q s q' s' r h k f; back = h.back; shorter = m; within = n }

-- ---- after a `*`

skipped : (a : Bool) (q s r t : List ℕ) (x : ℕ) → s ≡ x ∷ t → FitsNot a q s → IsSuffix r s → Fits a q r → Fits a (42 ∷ q) t
skipped a q s r t x e n (whole s0) f = absurd (n.none f)
skipped a q s r t x e n (later y r0 s0 k) f = let h : s0 ≡ t = cc in star_fits a q r t (subst (λ z. IsSuffix r z) h k) f

-- where the pattern doesn't fit at a text, the `*` takes a character more
pub star_takes : (a : Bool) (q t : List ℕ) (x : ℕ) → FitsNot a q (x ∷ t) → Fits a (42 ∷ q) (x ∷ t) → Fits a (42 ∷ q) t
star_takes a q t x n f = let k = fits_star a q (x ∷ t) f in skipped a q (x ∷ t) k.rest t x refl n k.is_suffix k.fits

pub star_more : (a : Bool) (q t : List ℕ) (x : ℕ) → Fits a (42 ∷ q) t → Fits a (42 ∷ q) (x ∷ t)
star_more a q t x f = let k = fits_star a q t f in star_fits a q k.rest (x ∷ t) (later x k.rest t k.is_suffix) k.fits

pub star_stops : (a : Bool) (q s q' s' : List ℕ) → StopsAtStar a q s q' s' → Fits a (42 ∷ q) s → Fits a (42 ∷ q') s'
star_stops a q s q' s' h f = let k = fits_star a q s f in h.onward k.rest k.is_suffix k.fits

pub star_here : (a : Bool) (q s : List ℕ) → Fits a q s → Fits a (42 ∷ q) s
star_here a q s f = star_fits a q s s (whole s) f
