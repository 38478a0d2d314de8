-- How an escaped text is read, and what of a pattern stands in it.
use Rattle.std.proofs.Common.{◌≡◌, ◌≢◌, ◌⊎◌, ℕ, zero, suc, ◌+◌, ◌-◌, ◌<◌, ◌≤◌, Bool, true, false, List, [], ◌∷◌, ◌++◌, length, take, drop, slice_index, refl, sym, ◌∙◌, ap, subst, arith, inl, inr, ⊎_elim, append_assoc}
use Rattle.std.proofs.lemmas.List.{length-append, get_or-take, get_or-drop, length-take-le, ext_get_or, length-drop, drop-append-le, drop-drop, nil_from_length}
use Rattle.std.proofs.Math.ListN.{get_or-append}
use Rattle.std.proofs.Math.Seq.{take-suc}
use Rattle.std.proofs.lemmas.Bool.{false≢true}
use Rattle.iri_robots.specs.inside.Fits.{IsEscape, star_escape, dollar_escape, Fits, FitsNot, IsSuffix, whole, later, EscapeOf, NoEscape, ended, star, escaped, same}
use Rattle.iri_robots.specs.inside.Plain.{Keeps, StandsNot}
use Rattle.iri_robots.specs.inside.Escaped.{tail_of, head_of, Left, FitsNotBefore, Stands, StandsNotHere, NotWhole, IsNeedle}
use Rattle.iri_robots.specs.inside.Escaped.{ended as no_needle, same as same_needle, escape as escape_needle}
use Rattle.iri_robots.specs.inside.Escaped.{escaped_text, left_text, next, after_bytes}
use Rattle.iri_robots.specs.inside.Periods.{HasPeriod, IsShift}
use Rattle.iri_robots.proofs.Moves.{same_prefix, fits_escape, FitsEscape, by_special, by_triplet, star_takes, star_more, fits_star}
use Rattle.std.specs.Prelude.{cond, ◌&&◌, ◌==◌}
use Rattle.iri_robots.proofs.Anchors.{apart}
use Rattle.iri_robots.proofs.Places.{kept_both}

-- ---- what is

abbrev pub left : List ℕ → List ℕ → Left
left b s = record { begun = b; rest = s }

pub drop_next : (d : Bool) (b s : List ℕ) → left_text d (next d (record { begun = b; rest = s })) ≡ drop 1 (left_text d (record { begun = b; rest = s }))
unfolding left_text next escaped_text
drop_next d [] [] = refl
drop_next d [] (c ∷ s) = refl
drop_next d (x ∷ b) s = refl

pub drop_bytes : (d : Bool) (n : ℕ) (l : Left) → left_text d (after_bytes d n l) ≡ drop n (left_text d l)
unfolding after_bytes
drop_bytes d zero l = refl
drop_bytes d (suc n) l =
    let t = left_text d l in
    let w : 1 + n ≡ suc n = omega arith in
    let k : left_text d (next d l) ≡ drop 1 t = drop_next d l.begun l.rest in
    drop_bytes d n (next d l) ∙ (ap (λ x. drop n x) k ∙ (drop-drop n 1 t ∙ ap (λ x. drop x t) w))

pub read_begun : (d : Bool) (b s b' : List ℕ) (x : ℕ) → b ≡ x ∷ b'
    → (left_text d (left b s) ≡ x ∷ left_text d (left b' s)) × (left b' s ≡ next d (left b s))
unfolding left_text next
read_begun d b s b' x e = let P : List ℕ → Type 0 = λ y. (left_text d (left y s) ≡ x ∷ left_text d (left b' s)) × (left b' s ≡ next d (left y s)) in
    subst P (sym e) (refl, refl)

pub read_rest : (d : Bool) (b s s' t : List ℕ) (x c : ℕ) → b ≡ [] → s ≡ c ∷ s' → x ≡ head_of d c → t ≡ tail_of d c
    → (left_text d (left b s) ≡ x ∷ left_text d (left t s')) × (left t s' ≡ next d (left b s))
unfolding left_text next escaped_text
read_rest d b s s' t x c e f g h =
    let P : List ℕ → List ℕ → ℕ → List ℕ → Type 0 = λ y z u v. (left_text d (left y z) ≡ u ∷ left_text d (left v s')) × (left v s' ≡ next d (left y z)) in
    subst (λ y. P y s x t) (sym e) (subst (λ z. P [] z x t) (sym f) (subst (λ u. P [] (c ∷ s') u t) (sym g) (subst (λ v. P [] (c ∷ s') (head_of d c) v) (sym h) (refl, refl))))

pub read_none : (d : Bool) (b s : List ℕ) → b ≡ [] → s ≡ [] → left_text d (left b s) ≡ []
unfolding left_text escaped_text
read_none d b s e f = subst (λ y. left_text d (left y s) ≡ []) (sym e) (subst (λ y. left_text d (left [] y) ≡ []) (sym f) refl)

pub all_read : (d : Bool) (b s : List ℕ) → left_text d (left b s) ≡ [] → next d (left b s) ≡ left b s
unfolding left_text escaped_text next
all_read d [] [] e = refl
all_read d [] (c ∷ s) e = cc
all_read d (x ∷ b) s e = cc

pub stays_read : (d : Bool) (n : ℕ) (l : Left) → left_text d l ≡ [] → after_bytes d n l ≡ l
unfolding after_bytes
stays_read d zero l e = refl
stays_read d (suc n) l e = let k = all_read d l.begun l.rest e in ap (λ x. after_bytes d n x) k ∙ stays_read d n l e

pub after_more : (d : Bool) (n m : ℕ) (l : Left) → after_bytes d m (after_bytes d n l) ≡ after_bytes d (n + m) l
unfolding after_bytes
after_more d zero m l = let w : m ≡ 0 + m = omega arith in ap (λ x. after_bytes d x l) w
after_more d (suc n) m l = let w : suc (n + m) ≡ suc n + m = omega arith in after_more d n m (next d l) ∙ ap (λ x. after_bytes d x l) w

pub one_byte_more : (d : Bool) (n : ℕ) (l k : Left) → k ≡ after_bytes d n l → next d k ≡ after_bytes d (n + 1) l
unfolding after_bytes
one_byte_more d n l k e = ap (λ x. next d x) e ∙ after_more d n 1 l

pub none_after : (d : Bool) (n i : ℕ) (l k : Left) → k ≡ after_bytes d i l → left_text d k ≡ [] → i ≤ n → k ≡ after_bytes d n l
none_after d n i l k e f m =
    let w : i + (n - i) ≡ n = omega arith in
    sym (stays_read d (n - i) k f) ∙ (ap (λ x. after_bytes d (n - i) x) e ∙ (after_more d i (n - i) l ∙ ap (λ x. after_bytes d x l) w))

pub at_count : (d : Bool) (n i : ℕ) (l k : Left) → k ≡ after_bytes d i l → i ≤ n → n ≤ i → k ≡ after_bytes d n l
at_count d n i l k e a b = let w : i ≡ n = omega arith in e ∙ ap (λ x. after_bytes d x l) w

-- ---- a needle

and_false : (b : Bool) → b && false ≡ false
and_false true = refl
and_false false = refl

head_same : (d : Bool) (c : ℕ) → c ≢ 42 → (d ≡ true → c ≢ 36) → (head_of d c ≡ c) × (tail_of d c ≡ [])
head_same true c n m =
    let p = apart c 42 n in
    let q = apart c 36 (m refl) in (
      ap (λ b. cond b 37 (cond (c == 36 && true) 37 c)) p ∙ ap (λ b. cond (b && true) 37 c) q,
      ap (λ b. cond b (50 ∷ 65 ∷ []) (cond (c == 36 && true) (50 ∷ 52 ∷ []) [])) p ∙ ap (λ b. cond (b && true) (50 ∷ 52 ∷ []) []) q,
    )
head_same false c n m =
    let p = apart c 42 n in
    let q = and_false (c == 36) in (
      ap (λ b. cond b 37 (cond (c == 36 && false) 37 c)) p ∙ ap (λ b. cond b 37 c) q,
      ap (λ b. cond b (50 ∷ 65 ∷ []) (cond (c == 36 && false) (50 ∷ 52 ∷ []) [])) p ∙ ap (λ b. cond b (50 ∷ 52 ∷ []) []) q,
    )

escape_read : (d : Bool) (l m : ℕ) (s : List ℕ) → IsEscape l m → tail_of d m ≢ [] → escaped_text d (m ∷ s) ≡ 37 ∷ 50 ∷ l ∷ escaped_text d s
unfolding escaped_text
escape_read d l m s star_escape n = refl
escape_read true l m s dollar_escape n = refl
escape_read false l m s dollar_escape n = absurd (n refl)

triplet_read : (d : Bool) (l m : ℕ) (s : List ℕ) → IsEscape l m → escaped_text d (37 ∷ 50 ∷ l ∷ s) ≡ 37 ∷ 50 ∷ l ∷ escaped_text d s
unfolding escaped_text
triplet_read d l m s star_escape = refl
triplet_read d l m s dollar_escape = refl

-- where a pattern fits, its needle stands: so much of the text is read as the needle
pub record IsRead (d a : Bool) (q : List ℕ) (n : ℕ) (r : List ℕ) : Type 0 where
  pub prefix : List ℕ
  pub rest : List ℕ
  pub split : r ≡ prefix ++ rest
  pub read : escaped_text d prefix ≡ take n q
  pub fits : Fits a (drop n q) rest

read_same : (d a : Bool) (c n : ℕ) (q r t : List ℕ) → c ≢ 42 → (d ≡ true → c ≢ 36) → r ≡ c ∷ t → IsRead d a q n t → IsRead d a (c ∷ q) (suc n) r
unfolding escaped_text
read_same d a c n q r t m b e h =
    let k = head_same d c m b in
    record {
      fits = h.fits;
      prefix = c ∷ h.prefix;
      rest = h.rest;
      split = e ∙ ap (λ x. c ∷ x) h.split;
      read = ap (λ x. x ∷ (tail_of d c ++ escaped_text d h.prefix)) k.0 ∙ (ap (λ x. c ∷ (x ++ escaped_text d h.prefix)) k.1 ∙ ap (λ x. c ∷ x) h.read);
    }

read_escape : (d a : Bool) (l m n : ℕ) (q r : List ℕ) → IsEscape l m → tail_of d m ≢ [] → ((t : List ℕ) → Fits a q t → IsRead d a q n t)
    → FitsEscape a l m q r → IsRead d a (37 ∷ 50 ∷ l ∷ q) (suc (suc (suc n))) r
read_escape d a l m n q r e f h (by_special t s g) =
    let k = h t g in
    record {
      fits = k.fits;
      prefix = m ∷ k.prefix;
      rest = k.rest;
      split = s ∙ ap (λ x. m ∷ x) k.split;
      read = escape_read d l m k.prefix e f ∙ ap (λ x. 37 ∷ 50 ∷ l ∷ x) k.read;
    }
read_escape d a l m n q r e f h (by_triplet t s g) =
    let k = h t g in
    record {
      fits = k.fits;
      prefix = 37 ∷ 50 ∷ l ∷ k.prefix;
      rest = k.rest;
      split = s ∙ ap (λ x. 37 ∷ 50 ∷ l ∷ x) k.split;
      read = triplet_read d l m k.prefix e ∙ ap (λ x. 37 ∷ 50 ∷ l ∷ x) k.read;
    }

pub needle_read : (d a : Bool) (q : List ℕ) (n : ℕ) (r : List ℕ) → IsNeedle d q n → Fits a q r → IsRead d a q n r
unfolding escaped_text
needle_read d a q n r (no_needle q') f = record { prefix = []; rest = r; split = refl; read = refl; fits = f }
needle_read d a q n r (same_needle c q' n' e m h k) f =
    let g = same_prefix a c q' r e m f in
    read_same d a c n' q' r g.0 e h g.1 (needle_read d a q' n' g.0 k g.2)
needle_read d a q n r (escape_needle l m q' n' e h k) f =
    read_escape d a l m n' q' r e h (λ t g. needle_read d a q' n' t k g) (fits_escape a l m q' r e f)

pub read_append : (d : Bool) (s t : List ℕ) → escaped_text d (s ++ t) ≡ escaped_text d s ++ escaped_text d t
unfolding escaped_text
read_append d [] t = refl
read_append d (c ∷ s) t =
    ap (λ x. head_of d c ∷ x) (ap (λ x. tail_of d c ++ x) (read_append d s t) ∙ sym (append_assoc (tail_of d c) (escaped_text d s) (escaped_text d t)))

past_tail : (d : Bool) (b s : List ℕ) → after_bytes d (length b) (left b s) ≡ left [] s
unfolding after_bytes next
past_tail d [] s = refl
past_tail d (x ∷ b) s = past_tail d b s

-- past a text that is read as a whole nothing is begun
pub past_read : (d : Bool) (s t : List ℕ) → after_bytes d (length (escaped_text d s)) (left [] (s ++ t)) ≡ left [] t
unfolding after_bytes next escaped_text
past_read d [] t = refl
past_read d (c ∷ s) t =
    let l = left (tail_of d c) (s ++ t) in
    let w = sym (length-append (tail_of d c) (escaped_text d s)) in
    sym (ap (λ x. after_bytes d x l) w) ∙ (sym (after_more d (length (tail_of d c)) (length (escaped_text d s)) l)
    ∙ (ap (λ x. after_bytes d (length (escaped_text d s)) x) (past_tail d (tail_of d c) (s ++ t)) ∙ past_read d s t))

-- ---- the places that are passed

pub keeps_all : (q s : List ℕ) → Keeps q s s
keeps_all q s a = record { fits = (λ f. f, λ f. f); within = omega arith }

keeps_both : (q s t u : List ℕ) → Keeps q s t → Keeps q t u → Keeps q s u
keeps_both q s t u h k a = kept_both a q s t u (h a) (k a)

step_kept : (d : Bool) (q b s : List ℕ) (n : ℕ) → 0 < n → FitsNotBefore d q (left b s) n → Keeps q s (next d (left b s)).rest
unfolding next after_bytes
step_kept d q [] [] n l h a = keeps_all q [] a
step_kept d q [] (c ∷ s) n l h a = record {
  fits = (λ f. star_takes a q s c (h 0 (c ∷ s) l refl a) f, λ f. star_more a q s c f);
  within = omega arith;
}
step_kept d q (x ∷ b) s n l h a = keeps_all q s a

pub bytes_kept : (d : Bool) (q : List ℕ) (n : ℕ) (l : Left) → FitsNotBefore d q l n → Keeps q l.rest (after_bytes d n l).rest
unfolding after_bytes
bytes_kept d q zero l h = keeps_all q l.rest
bytes_kept d q (suc n) l h =
    keeps_both q l.rest (next d l).rest (after_bytes d n (next d l)).rest (step_kept d q l.begun l.rest (suc n) (omega arith) h)
    (bytes_kept d q n (next d l) (λ j r m e. h (suc j) r (omega arith) e))

-- ---- a needle at a place

-- so much of the needle as stands, if all of it stands some bytes later, has these as a period
later_period : (y t w after : List ℕ) (n j : ℕ) → t ≡ take n y ++ after → n ≤ length y → drop j t ≡ y ++ w → HasPeriod y n j
later_period y t w after n j e l f = record {
  same = λ i m.
      let a : slice_index t (j + i) ≡ slice_index y (j + i) =
      ap (λ x. slice_index x (j + i)) e ∙ (get_or-append (take n y) after 0 (j + i) (omega (arith, length-take-le n y l)) ∙ get_or-take n y (j + i) 0 m) in
      let b : slice_index t (j + i) ≡ slice_index y i =
      sym (get_or-drop j t i 0) ∙ (ap (λ x. slice_index x i) f ∙ get_or-append y w 0 i (omega arith)) in
      sym a ∙ b;
}

-- what is read at a place where the pattern fits
fits_read : (d a : Bool) (q : List ℕ) (n : ℕ) (r : List ℕ) → IsNeedle d q n → Fits a q r → (h : IsRead d a q n r)
    × (left_text d (left [] r) ≡ take n q ++ escaped_text d h.rest)
unfolding left_text
fits_read d a q n r h f =
    let k = needle_read d a q n r h f in
    (k, ap (λ x. escaped_text d x) k.split ∙ (read_append d k.prefix k.rest ∙ ap (λ x. x ++ escaped_text d k.rest) k.read))

next_byte : (y w after : List ℕ) (n : ℕ) → n < length y → take n y ++ after ≡ y ++ w → after ≡ slice_index y n ∷ (drop (suc n) y ++ w)
next_byte [] w after n l e = absurd (omega arith)
next_byte (x ∷ y) w after zero l e = e
next_byte (x ∷ y) w after (suc n) l e = next_byte y w after n (omega arith) (cc)

open_fits : (a : Bool) (q s : List ℕ) → Fits a q s → Fits false q s
open_fits a q s (ended s' h) = ended s' (λ e. absurd (false≢true e))
open_fits a q s (star t q' s' f) = star t q' s' (open_fits a q' s' f)
open_fits a q s (escaped l m q' s' e f) = escaped l m q' s' e (open_fits a q' s' f)
open_fits a q s (same c q' s' h f) = same c q' s' h (open_fits a q' s' f)

not_here : (d a : Bool) (q : List ℕ) (len n : ℕ) (l after : Left) (r : List ℕ) → IsNeedle d q len → len ≤ length q → Stands d (take len q) l n after
    → StandsNotHere d (take len q) (drop len q) l n after → l ≡ left [] r → Fits a q r → ⊥
not_here d a q len n l after r h m s o e f =
    let k = fits_read d a q len r h f in
    let t : left_text d l ≡ take len q ++ escaped_text d k.0.rest = ap (λ x. left_text d x) e ∙ k.1 in
    ⊎_elim
    (λ y. y.1 (drop (suc n) (take len q) ++ escaped_text d k.0.rest) (next_byte (take len q) (escaped_text d k.0.rest) (left_text d after) n y.0 (sym
    s.text ∙ t)))
    (λ y.
    let p : length (escaped_text d k.0.prefix) ≡ n = ap length k.0.read ∙ sym y.0 in
    let u : after_bytes d n l ≡ left [] k.0.rest =
    ap (λ x. after_bytes d n x) (e ∙ ap (λ x. left [] x) k.0.split) ∙ (ap (λ x. after_bytes d x (left [] (k.0.prefix ++ k.0.rest))) (sym p)
    ∙ past_read d k.0.prefix k.0.rest) in
    let v : after ≡ left [] k.0.rest = sym s.moved ∙ u in
    ⊎_elim (λ z. z (ap (λ x. x.begun) e)) (λ z. ⊎_elim (λ w. w (ap (λ x. x.begun) v)) (λ w. w.none (subst (λ x. Fits false (drop len q) x) (sym (ap (λ x. x.rest) v)) (open_fits a (drop len q) k.0.rest k.0.fits))) z) y.1)
    o

-- at none of the places that are passed the pattern fits
pub none_passed : (d : Bool) (q : List ℕ) (len n by kept : ℕ) (l after : Left) → IsNeedle d q len → len ≤ length q → Stands d (take len q) l n after
    → StandsNotHere d (take len q) (drop len q) l n after → IsShift (take len q) n by kept → FitsNotBefore d q l by
unfolding after_bytes
none_passed d q len n by kept l after h m s o f zero r i e a = record { none = λ g. not_here d a q len n l after r h m s o e g }
none_passed d q len n by kept l after h m s o f (suc j) r i e a = record {
  none = λ g.
      let k = fits_read d a q len r h g in
      let t : drop (suc j) (left_text d l) ≡ take len q ++ escaped_text d k.0.rest = sym (drop_bytes d (suc j) l) ∙ (ap (λ x. left_text d x) e ∙ k.1) in
      f.earliest (suc j) (omega arith) i (later_period (take len q) (left_text d l) (escaped_text d k.0.rest) (left_text d after) n (suc j) s.text s.within t);
}

-- ---- the needle after a shift

period_rest : (y : List ℕ) (by kept n : ℕ) → by + kept ≡ n → n ≤ length y → HasPeriod y n by → drop by (take n y) ≡ take kept y
period_rest y by kept n e l h =
    let a = length-take-le n y l in
    let b = length-take-le kept y (omega arith) in
    let c = length-drop by (take n y) in
    ext_get_or 0 (drop by (take n y)) (take kept y) (omega arith) (λ i m.
    let w : by + i < n = omega arith in
    get_or-drop by (take n y) i 0 ∙ (get_or-take n y (by + i) 0 w ∙ (h.same i w ∙ sym (get_or-take kept y i 0 (omega arith)))))

pub stands_later : (d : Bool) (y : List ℕ) (n by kept : ℕ) (l after : Left) → by + kept ≡ n → HasPeriod y n by → Stands d y l n after
    → Stands d y (after_bytes d by l) kept after
stands_later d y n by kept l after e h s =
    let w = s.within in
    let m : by ≤ length (take n y) = omega (arith, length-take-le n y s.within) in
    record {
      within = omega arith;
      text = drop_bytes d by l ∙ (ap (λ x. drop by x) s.text ∙ (drop-append-le by (take n y) (left_text d after) m
          ∙ ap (λ x. x ++ left_text d after) (period_rest y by kept n e s.within h)));
      moved = after_more d by kept l ∙ (ap (λ x. after_bytes d x l) e ∙ s.moved);
    }

pub stands_anew : (d : Bool) (y : List ℕ) (l : Left) → Stands d y l 0 l
unfolding after_bytes
stands_anew d y l = record { within = omega arith; text = refl; moved = refl }

-- ---- where the text ends

shorter_read : (d : Bool) (r s : List ℕ) → IsSuffix r s → length (escaped_text d r) ≤ length (escaped_text d s)
unfolding escaped_text
shorter_read d r s (whole s') = omega arith
shorter_read d r s (later x r' s' k) = let h = shorter_read d r s' k in omega (arith, length-append (tail_of d x) (escaped_text d s'))

suffix_as_long : (d : Bool) (r s : List ℕ) → IsSuffix r s → length (escaped_text d s) ≤ length (escaped_text d r) → r ≡ s
unfolding escaped_text
suffix_as_long d r s (whole s') l = refl
suffix_as_long d r s (later x r' s' k) l =
    let h = shorter_read d r s' k in
    absurd (omega (arith, length-append (tail_of d x) (escaped_text d s')))

pub none_left : (d : Bool) (q s : List ℕ) (len n : ℕ) (l after : Left) → IsNeedle d q len → len ≤ length q → Stands d (take len q) l n after
    → StandsNotHere d (take len q) (drop len q) l n after → left_text d after ≡ [] → Keeps q s l.rest → StandsNot q s
unfolding left_text
none_left d q s len n l after h m st o e k a = record {
  none = λ f.
      let g = fits_star a q l.rest ((k a).fits.0 f) in
      let r = fits_read d a q len g.rest h g.fits in
      let u = shorter_read d g.rest l.rest g.is_suffix in
      let v = ap length r.1 ∙ length-append (take len q) (escaped_text d r.0.rest) in
      let w = ap length st.text ∙ length-append (take n (take len q)) (left_text d after) in
      let x = ap length e in
      let y = length-take-le len q m in
      let z = length-take-le n (take len q) st.within in
      let i = st.within in
      let p = length-append l.begun (escaped_text d l.rest) in
      let b : l.begun ≡ [] = nil_from_length l.begun (omega arith) in
      let c : g.rest ≡ l.rest = suffix_as_long d g.rest l.rest g.is_suffix (omega arith) in
      let j : l ≡ left [] g.rest = ap (λ t. left t l.rest) b ∙ ap (λ t. left [] t) (sym c) in
      not_here d a q len n l after g.rest h m st o j g.fits;
}

-- ---- the parts of a needle

some_tail : (d : Bool) (l m : ℕ) → IsEscape l m → d ≡ true ⊎ m ≡ 42 → tail_of d m ≢ []
some_tail d l m star_escape h e = cc
some_tail true l m dollar_escape h e = cc
some_tail false l m dollar_escape h e = ⊎_elim (λ x. cc) (λ x. omega arith) h

pub escape_part : (d : Bool) (q : List ℕ) (m : ℕ) → EscapeOf q m → d ≡ true ⊎ m ≡ 42 → (n : ℕ) → IsNeedle d (drop 3 q) n → IsNeedle d q (3 + n)
escape_part d q m e o n h =
    let w : suc (suc (suc n)) ≡ 3 + n = omega arith in
    let k : IsNeedle d e.rest n = subst (λ x. IsNeedle d x n) (ap (λ x. drop 3 x) e.text) h in
    subst (λ x. IsNeedle d x (3 + n)) (sym e.text) (subst (λ x. IsNeedle d (37 ∷ 50 ∷ e.letter ∷ e.rest) x) w (escape_needle e.letter m e.rest n
    e.is_escape (some_tail d e.letter m e.is_escape o) k))

pub same_part : (d : Bool) (q : List ℕ) → 0 < length q → slice_index q 0 ≢ 42 → NoEscape q → (d ≡ true → slice_index q 0 ≢ 36) → (n : ℕ)
    → IsNeedle d (drop 1 q) n → IsNeedle d q (1 + n)
same_part d [] l e f g n h = absurd (omega arith)
same_part d (c ∷ q) l e f g n h = let w : suc n ≡ 1 + n = omega arith in subst (λ x. IsNeedle d (c ∷ q) x) w (same_needle c q n e f g h)

pub parts_more : (d : Bool) (q r : List ℕ) (n i : ℕ) → r ≡ drop n q → ((k : ℕ) → IsNeedle d (drop n q) k → IsNeedle d q (n + k))
    → ((k : ℕ) → IsNeedle d (drop i r) k → IsNeedle d r (i + k)) → (k : ℕ) → IsNeedle d (drop (n + i) q) k → IsNeedle d q (n + i + k)
parts_more d q r n i e h p k f =
    let w : n + (i + k) ≡ n + i + k = omega arith in
    let u : drop (n + i) q ≡ drop i r = sym (drop-drop i n q) ∙ ap (λ x. drop i x) (sym e) in
    let v = p k (subst (λ x. IsNeedle d x k) u f) in
    subst (λ x. IsNeedle d q x) w (h (i + k) (subst (λ x. IsNeedle d x (i + k)) e v))

pub whole_needle : (d : Bool) (q : List ℕ) (n : ℕ) → ((k : ℕ) → IsNeedle d (drop n q) k → IsNeedle d q (n + k)) → IsNeedle d q n
whole_needle d q n h = let w : n + 0 ≡ n = omega arith in subst (λ x. IsNeedle d q x) w (h 0 (no_needle (drop n q)))

-- ---- a byte more of a needle

pub stands_more : (d : Bool) (y : List ℕ) (n b : ℕ) (l k k' : Left) → n < length y → b ≡ slice_index y n → left_text d k ≡ b ∷ left_text d k'
    → k' ≡ next d k → Stands d y l n k → Stands d y l (n + 1) k'
stands_more d y n b l k k' m e f g s =
    let w : suc n ≡ n + 1 = omega arith in
    let u : take n y ++ slice_index y n ∷ [] ≡ take (n + 1) y = sym (take-suc y n 0 m) ∙ ap (λ x. take x y) w in
    record {
      within = omega arith;
      text = s.text ∙ (ap (λ x. take n y ++ x) (f ∙ ap (λ x. x ∷ left_text d k') e) ∙ (sym (append_assoc (take n y) (slice_index y n ∷ []) (left_text d k'))
          ∙ ap (λ x. x ++ left_text d k') u));
      moved = sym (g ∙ one_byte_more d n l k (sym s.moved));
    }

-- ---- the search

empty_left : (d : Bool) (b s : List ℕ) → left_text d (left b s) ≡ [] → (b ≡ []) × (s ≡ [])
unfolding left_text escaped_text
empty_left d [] [] e = (refl, refl)
empty_left d [] (c ∷ s) e = cc
empty_left d (x ∷ b) s e = cc

some_begun : (y b c : List ℕ) (n : ℕ) → n ≡ length y → ((n ≡ length y) × (b ≡ []) × (c ≡ []) → ⊥) → (b ≢ []) ⊎ (c ≢ [])
some_begun y [] [] n e h = absurd (h (e, refl, refl))
some_begun y [] (x ∷ c) n e h = inr (λ z. cc)
some_begun y (x ∷ b) c n e h = inl (λ z. cc)

pub stands_not : (d : Bool) (y q : List ℕ) (len : ℕ) (l after : Left) (n : ℕ) → length y ≡ len
    → n ≡ length y ⊎ (n < length y) × ((t : List ℕ) → left_text d after ≡ slice_index y n ∷ t → ⊥)
    → NotWhole len l n after ⊎ FitsNot false q after.rest → StandsNotHere d y q l n after
stands_not d y q len l after n w o h = ⊎_elim
    (λ e. inr (
      e,
      ⊎_elim
          (λ g. ⊎_elim (λ b. inl b) (λ b. inr (inl b)) (some_begun y l.begun after.begun n e (λ k. g (e ∙ w, k.1, k.2))))
          (λ f. inr (inr f))
          h,
    ))
    (λ x. inl x)
    o

append_empty : (s t : List ℕ) → [] ≡ s ++ t → t ≡ []
append_empty [] t e = sym e
append_empty (x ∷ s) t e = cc

pub not_all_read : (d : Bool) (y : List ℕ) (l after : Left) (n : ℕ) → Stands d y l n after
    → ((after.begun ≡ []) × (after.rest ≡ []) → ⊥) → left_text d l ≢ []
not_all_read d y l after n s h e = h (empty_left d after.begun after.rest (append_empty (take n y) (left_text d after) (sym e ∙ s.text)))

less_dropped : (t : List ℕ) (n : ℕ) → 0 < n → t ≢ [] → length (drop n t) < length t
less_dropped [] n m e = absurd (e refl)
less_dropped (x ∷ t) n m e = omega (arith, length-drop n (x ∷ t))

pub less_left : (d : Bool) (l k : Left) (by : ℕ) → k ≡ after_bytes d by l → 0 < by → left_text d l ≢ [] → length (left_text d k) < length (left_text d l)
less_left d l k by e m n =
    let a = ap (λ x. length (left_text d x)) e ∙ ap length (drop_bytes d by l) in
    let b = less_dropped (left_text d l) by m n in
    omega arith

pub stands_shifted : (d : Bool) (y : List ℕ) (l after start next : Left) (n by kept bytes : ℕ) → IsShift y n by kept → Stands d y l n after
    → start ≡ after_bytes d by l → bytes ≡ kept → (kept ≡ 0 → next ≡ start) → (kept ≢ 0 → next ≡ after) → Stands d y start bytes next
stands_shifted d y l after start next n by zero bytes f s e g a b =
    subst (λ x. Stands d y start x next) (sym g) (subst (λ x. Stands d y start 0 x) (sym (a refl)) (stands_anew d y start))
stands_shifted d y l after start next n by (suc kept) bytes f s e g a b =
    subst (λ x. Stands d y start x next) (sym g) (subst (λ x. Stands d y start (suc kept) x) (sym (b (λ z. omega arith)))
    (subst (λ x. Stands d y x (suc kept) after) (sym e) (⊎_elim (λ z. absurd (omega arith)) (λ z. stands_later d y n by (suc kept) l after z.0 z.1 s) f.known)))

pub place_kept : (d : Bool) (q s : List ℕ) (l k : Left) (by : ℕ) → Keeps q s l.rest → FitsNotBefore d q l by → k ≡ after_bytes d by l → Keeps q s k.rest
place_kept d q s l k by h n e = subst (λ x. Keeps q s x.rest) (sym e) (keeps_both q s l.rest (after_bytes d by l).rest h (bytes_kept d q by l n))
