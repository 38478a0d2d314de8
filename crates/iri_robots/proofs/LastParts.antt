-- A pattern at the end of a text.
use Rattle.std.proofs.Common.{◌≡◌, ◌≢◌, ℕ, suc, ◌-◌, ◌<◌, ◌≤◌, true, List, [], ◌∷◌, ◌++◌, length, take, drop, slice_index, refl, sym, ◌∙◌, ap, subst, arith, append_assoc, append-nil}
use Rattle.std.proofs.lemmas.List.{length-append, length-drop, take-append-drop, take_at, nil_from_length}
use Rattle.std.proofs.Math.Seq.{drop-append_seam}
use Rattle.iri_robots.specs.inside.Fits.{IsEscape, star_escape, dollar_escape, Fits, FitsNot, ended, star, escaped, same, EscapeOf}
use Rattle.iri_robots.specs.inside.Ends.{HasNoStar, HasLastEscape, EndsWith}
use Rattle.iri_robots.proofs.Moves.{fits_end, one_special}

apart_letter : (l m : ℕ) → IsEscape l m → m ≢ l
apart_letter l m star_escape e = omega arith
apart_letter l m dollar_escape e = omega arith

-- ---- one byte more at both ends

fits_byte : (q s : List ℕ) (c : ℕ) → c ≢ 42 → Fits true q s → Fits true (q ++ c ∷ []) (s ++ c ∷ [])
fits_byte q s c n (ended s' h) = subst (λ x. Fits true (c ∷ []) (x ++ c ∷ [])) (sym (h refl)) (same c [] [] n (ended [] (λ _. refl)))
fits_byte q s c n (star t q' s' f) = subst (λ x. Fits true (42 ∷ (q' ++ c ∷ [])) x) (sym (append_assoc t s' (c ∷ []))) (star t (q' ++ c ∷ []) (s' ++ c ∷ []) (fits_byte q' s' c n f))
fits_byte q s c n (escaped l m q' s' e f) = escaped l m (q' ++ c ∷ []) (s' ++ c ∷ []) e (fits_byte q' s' c n f)
fits_byte q s c n (same c' q' s' h f) = same c' (q' ++ c ∷ []) (s' ++ c ∷ []) h (fits_byte q' s' c n f)

fits_special : (q s : List ℕ) (l m : ℕ) → IsEscape l m → Fits true q s → Fits true (q ++ 37 ∷ 50 ∷ l ∷ []) (s ++ m ∷ [])
fits_special q s l m e (ended s' h) = subst (λ x. Fits true (37 ∷ 50 ∷ l ∷ []) (x ++ m ∷ [])) (sym (h refl)) (escaped l m [] [] e (ended [] (λ _. refl)))
fits_special q s l m e (star t q' s' f) = subst (λ x. Fits true (42 ∷ (q' ++ 37 ∷ 50 ∷ l ∷ [])) x) (sym (append_assoc t s' (m ∷ []))) (star t (q' ++ 37 ∷ 50 ∷ l ∷ []) (s' ++ m ∷ []) (fits_special q' s' l m e f))
fits_special q s l m e (escaped l' m' q' s' e' f) = escaped l' m' (q' ++ 37 ∷ 50 ∷ l ∷ []) (s' ++ m ∷ []) e' (fits_special q' s' l m e f)
fits_special q s l m e (same c' q' s' h f) = same c' (q' ++ 37 ∷ 50 ∷ l ∷ []) (s' ++ m ∷ []) h (fits_special q' s' l m e f)

-- ---- what the last byte of a pattern is filled by

data FitsLast (c : ℕ) (q s : List ℕ) : Type 0 where
  by_byte : (t : List ℕ) → s ≡ t ++ c ∷ [] → Fits true q t → FitsLast c q s
  by_special : (m : ℕ) (q' t : List ℕ) → IsEscape c m → q ≡ q' ++ 37 ∷ 50 ∷ [] → s ≡ t ++ m ∷ [] → Fits true q' t → FitsLast c q s

last_star : (c : ℕ) (t q s : List ℕ) → FitsLast c q s → FitsLast c (42 ∷ q) (t ++ s)
last_star c t q s (by_byte u e f) = by_byte (t ++ u) (ap (λ x. t ++ x) e ∙ sym (append_assoc t u (c ∷ []))) (star t q u f)
last_star c t q s (by_special m q' u e d h f) =
    by_special m (42 ∷ q') (t ++ u) e (ap (λ x. 42 ∷ x) d) (ap (λ x. t ++ x) h ∙ sym (append_assoc t u (m ∷ []))) (star t q' u f)

last_same : (c d : ℕ) (q s : List ℕ) → d ≢ 42 → FitsLast c q s → FitsLast c (d ∷ q) (d ∷ s)
last_same c d q s n (by_byte u e f) = by_byte (d ∷ u) (ap (λ x. d ∷ x) e) (same d q u n f)
last_same c d q s n (by_special m q' u e k h f) = by_special m (d ∷ q') (d ∷ u) e (ap (λ x. d ∷ x) k) (ap (λ x. d ∷ x) h) (same d q' u n f)

last_escaped : (c l m : ℕ) (q s : List ℕ) → IsEscape l m → FitsLast c q s → FitsLast c (37 ∷ 50 ∷ l ∷ q) (m ∷ s)
last_escaped c l m q s e (by_byte u d f) = by_byte (m ∷ u) (ap (λ x. m ∷ x) d) (escaped l m q u e f)
last_escaped c l m q s e (by_special m' q' u e' k h f) =
    by_special m' (37 ∷ 50 ∷ l ∷ q') (m ∷ u) e' (ap (λ x. 37 ∷ 50 ∷ l ∷ x) k) (ap (λ x. m ∷ x) h) (escaped l m q' u e f)

fits_last : (c : ℕ) (p q s : List ℕ) → c ≢ 42 → p ≡ q ++ c ∷ [] → Fits true p s → FitsLast c q s
fits_last c p [] s n e (ended s' h) = cc
fits_last c p (x ∷ q) s n e (ended s' h) = cc
fits_last c p [] s n e (star t q' s' f) = let k : 42 ≡ c = cc in absurd (n (sym k))
fits_last c p (x ∷ q) s n e (star t q' s' f) =
    let k : q' ≡ q ++ c ∷ [] = cc in
    let w : x ≡ 42 = cc in
    subst (λ y. FitsLast c (y ∷ q) (t ++ s')) (sym w) (last_star c t q s' (fits_last c q' q s' n k f))
fits_last c p [] s n e (escaped l m q' s' i f) = cc
fits_last c p (x ∷ []) s n e (escaped l m q' s' i f) = cc
fits_last c p (x ∷ y ∷ []) s n e (escaped l m q' s' i f) =
    let k : q' ≡ [] = cc in
    let w : x ∷ y ∷ [] ≡ 37 ∷ 50 ∷ [] = cc in
    let v : l ≡ c = cc in
    let u = fits_end true s' (subst (λ z. Fits true z s') k f) refl in
    by_special m [] [] (subst (λ z. IsEscape z m) v i) w (ap (λ z. m ∷ z) u) (ended [] (λ _. refl))
fits_last c p (x ∷ y ∷ z ∷ q) s n e (escaped l m q' s' i f) =
    let k : q' ≡ q ++ c ∷ [] = cc in
    let w : x ∷ y ∷ z ∷ q ≡ 37 ∷ 50 ∷ l ∷ q = cc in
    subst (λ v. FitsLast c v (m ∷ s')) (sym w) (last_escaped c l m q s' i (fits_last c q' q s' n k f))
fits_last c p [] s n e (same d q' s' h f) =
    let k : q' ≡ [] = cc in
    let w : d ≡ c = cc in
    let u = fits_end true s' (subst (λ z. Fits true z s') k f) refl in
    by_byte [] (ap (λ z. d ∷ z) u ∙ ap (λ z. z ∷ []) w) (ended [] (λ _. refl))
fits_last c p (x ∷ q) s n e (same d q' s' h f) =
    let k : q' ≡ q ++ c ∷ [] = cc in
    let w : x ≡ d = cc in
    subst (λ y. FitsLast c (y ∷ q) (d ∷ s')) (sym w) (last_same c d q s' h (fits_last c q' q s' n k f))

-- ---- lists by their last element

same_ends : (s t : List ℕ) (a b : ℕ) → s ++ a ∷ [] ≡ t ++ b ∷ [] → (s ≡ t) × (a ≡ b)
same_ends [] [] a b e = (refl, (cc))
same_ends [] (y ∷ t) a b e = let k : [] ≡ t ++ b ∷ [] = cc in absurd (omega (arith, ap length k, length-append t (b ∷ [])))
same_ends (x ∷ s) [] a b e = let k : s ++ a ∷ [] ≡ [] = cc in absurd (omega (arith, ap length k, length-append s (a ∷ [])))
same_ends (x ∷ s) (y ∷ t) a b e =
    let k = same_ends s t a b (cc) in
    let w : x ≡ y = cc in
    (ap (λ z. z ∷ s) w ∙ ap (λ z. y ∷ z) k.0, k.1)

end_cut : (q : List ℕ) → 0 < length q → q ≡ take (length q - 1) q ++ slice_index q (length q - 1) ∷ []
end_cut [] l = absurd (omega arith)
end_cut (x ∷ []) l = refl
end_cut (x ∷ y ∷ q) l =
    let w : length (x ∷ y ∷ q) - 1 ≡ suc (length (y ∷ q) - 1) = omega arith in
    let P : ℕ → Type 0 = λ k. x ∷ y ∷ q ≡ take k (x ∷ y ∷ q) ++ slice_index (x ∷ y ∷ q) k ∷ [] in
    subst P (sym w) (ap (λ z. x ∷ z) (end_cut (y ∷ q) (omega arith)))

front : (s t : List ℕ) (b : ℕ) → s ≡ t ++ b ∷ [] → take (length s - 1) s ≡ t
front s t b e =
    let w : length t ≡ length s - 1 = omega (arith, ap length e, length-append t (b ∷ [])) in
    ap (λ x. take (length s - 1) x) e ∙ take_at t (b ∷ []) (length s - 1) w

-- ---- the escape at the end of a pattern

pub last_escape_here : (q r : List ℕ) (m : ℕ) → 3 ≤ length q → r ≡ drop (length q - 3) q → EscapeOf r m → HasLastEscape q m
last_escape_here q r m l e h =
    let w : length h.rest ≡ 0 = omega (arith, ap length h.text, ap length e, length-drop (length q - 3) q) in
    let k : r ≡ 37 ∷ 50 ∷ h.letter ∷ [] = h.text ∙ ap (λ x. 37 ∷ 50 ∷ h.letter ∷ x) (nil_from_length h.rest w) in
    record {
      letter = h.letter;
      before = take (length q - 3) q;
      is_escape = h.is_escape;
      text = sym (take-append-drop (length q - 3) q) ∙ ap (λ x. take (length q - 3) q ++ x) (sym e ∙ k);
    }

pub last_escape_back : (q r : List ℕ) (m : ℕ) → r ≡ drop (length q - 3) q → HasLastEscape q m → EscapeOf r m
last_escape_back q r m e h =
    let w : length q - 3 ≡ length h.before = omega (arith, ap length h.text, length-append h.before (37 ∷ 50 ∷ h.letter ∷ [])) in
    record {
      letter = h.letter;
      rest = [];
      is_escape = h.is_escape;
      text = e ∙ (ap (λ x. drop x q) w ∙ (ap (λ x. drop (length h.before) x) h.text ∙ drop-append_seam h.before (37 ∷ 50 ∷ h.letter ∷ [])));
    }

same_escape : (r : List ℕ) (m n : ℕ) → EscapeOf r m → EscapeOf r n → m ≡ n
same_escape r m n h k =
    let w : h.letter ≡ k.letter = cc (sym h.text ∙ k.text) in
    one_special k.letter m n (subst (λ x. IsEscape x m) w h.is_escape) k.is_escape

pub last_escape_is : (q r : List ℕ) (m n : ℕ) → r ≡ drop (length q - 3) q → EscapeOf r m → HasLastEscape q n → m ≡ n
last_escape_is q r m n e h k = same_escape r m n h (last_escape_back q r n e k)

-- ---- what the last byte of the text fills

last_of : (q s : List ℕ) → 0 < length q → HasNoStar q → Fits true (42 ∷ q) s
    → FitsLast (slice_index q (length q - 1)) (42 ∷ take (length q - 1) q) s
last_of q s l n f =
    fits_last (slice_index q (length q - 1)) (42 ∷ q) (42 ∷ take (length q - 1) q) s (n (length q - 1) (omega arith)) (ap (λ x. 42 ∷ x) (end_cut q l)) f

escape_before : (q q' : List ℕ) (c m : ℕ) → IsEscape c m → q ≡ take (length q - 1) q ++ c ∷ [] → 42 ∷ take (length q - 1) q ≡ q' ++ 37 ∷ 50 ∷ []
    → HasLastEscape q m
escape_before q [] c m i e h = let k = ap (λ z. slice_index z 0) h in absurd (omega arith)
escape_before q (x ∷ q') c m i e h =
    let k : take (length q - 1) q ≡ q' ++ 37 ∷ 50 ∷ [] = ap (λ z. drop 1 z) h in
    record {
      letter = c;
      before = q';
      is_escape = i;
      text = e ∙ (ap (λ z. z ++ c ∷ []) k ∙ append_assoc q' (37 ∷ 50 ∷ []) (c ∷ []));
    }

pub not_filled : (q s t : List ℕ) (b : ℕ) → 0 < length q → HasNoStar q → s ≡ t ++ b ∷ [] → (HasLastEscape q b → ⊥)
    → b ≢ slice_index q (length q - 1) → FitsNot true (42 ∷ q) s
not_filled q s t b l n e o d = record {
  none = λ f. elim (last_of q s l n f) [
    | by_byte u h g ↦ d (same_ends t u b (slice_index q (length q - 1)) (sym e ∙ h)).1
    | by_special m q' u i k h g ↦
        let w = same_ends t u b m (sym e ∙ h) in
        o (escape_before q q' (slice_index q (length q - 1)) b (subst (λ x. IsEscape (slice_index q (length q - 1)) x) (sym w.1) i) (end_cut q l) k)
  ];
}

byte_onward : (c : ℕ) (q s t : List ℕ) → s ≡ t ++ c ∷ [] → FitsLast c q s → Fits true q t
byte_onward c q s t e (by_byte u h g) = let w = same_ends u t c c (sym h ∙ e) in subst (λ x. Fits true q x) w.0 g
byte_onward c q s t e (by_special m q' u i k h g) = let w = same_ends u t m c (sym h ∙ e) in absurd (apart_letter c m i w.1)

pub byte_filled : (q s t : List ℕ) (b : ℕ) → 0 < length q → HasNoStar q → s ≡ t ++ b ∷ [] → b ≡ slice_index q (length q - 1) → EndsWith q s 1
byte_filled q s t b l n e d =
    let c = slice_index q (length q - 1) in
    let h : s ≡ t ++ c ∷ [] = e ∙ ap (λ x. t ++ x ∷ []) d in
    let k = front s t b e in
    let g = end_cut q l in
    record {
      fits = (
        λ f. subst (λ x. Fits true (42 ∷ take (length q - 1) q) x) (sym k) (byte_onward c (42 ∷ take (length q - 1) q) s t h (last_of q s l n f)),
        λ f. subst (λ x. Fits true (42 ∷ x) s) (sym g) (subst (λ x. Fits true (42 ∷ (take (length q - 1) q ++ c ∷ [])) x) (sym h) (fits_byte (42 ∷ take (length q
            - 1) q) t c (n (length q - 1) (omega arith)) (subst (λ x. Fits true (42 ∷ take (length q - 1) q) x) k f))),
      );
      some = omega arith;
      in_pattern = omega arith;
      in_text = omega (arith, ap length e, length-append t (b ∷ []));
    }

same_pair_ends : (p q : List ℕ) (a b : ℕ) → p ++ a ∷ b ∷ [] ≡ q ++ a ∷ b ∷ [] → p ≡ q
same_pair_ends p q a b e =
    let w = same_ends (p ++ a ∷ []) (q ++ a ∷ []) b b (append_assoc p (a ∷ []) (b ∷ []) ∙ (e ∙ sym (append_assoc q (a ∷ []) (b ∷ [])))) in
    (same_ends p q a a w.0).0

special_onward : (c m : ℕ) (q p s t : List ℕ) → IsEscape c m → q ≡ p ++ 37 ∷ 50 ∷ [] → s ≡ t ++ m ∷ [] → FitsLast c q s → Fits true p t
special_onward c m q p s t i k e (by_byte u h g) = let w = same_ends t u m c (sym e ∙ h) in absurd (apart_letter c m i w.1)
special_onward c m q p s t i k e (by_special m' q' u i' k' h g) =
    let w = same_ends u t m' m (sym h ∙ e) in
    let v = same_pair_ends q' p 37 50 (sym k' ∙ k) in
    subst (λ x. Fits true x t) v (subst (λ x. Fits true q' x) w.0 g)

pub special_filled : (q s t : List ℕ) (b : ℕ) → 0 < length q → HasNoStar q → s ≡ t ++ b ∷ [] → HasLastEscape q b → EndsWith q s 3
special_filled q s t b l n e h =
    let c = slice_index q (length q - 1) in
    let u = same_ends (take (length q - 1) q) (h.before ++ 37 ∷ 50 ∷ []) c h.letter (sym (end_cut q l) ∙ (h.text ∙ sym (append_assoc h.before (37 ∷ 50 ∷ []) (h.letter
    ∷ [])))) in
    let w : length h.before ≡ length q - 3 = omega (arith, ap length h.text, length-append h.before (37 ∷ 50 ∷ h.letter ∷ [])) in
    let v : take (length q - 3) q ≡ h.before = ap (λ x. take (length q - 3) x) h.text ∙ take_at h.before (37 ∷ 50 ∷ h.letter ∷ []) (length q - 3) w in
    let k = front s t b e in
    let i = subst (λ x. IsEscape x b) (sym u.1) h.is_escape in
    record {
      fits = (
        λ f. subst (λ x. Fits true (42 ∷ x) (take (length s - 1) s)) (sym v) (subst (λ x. Fits true (42 ∷ h.before) x) (sym k) (special_onward c b (42 ∷ take (length q
            - 1) q) (42 ∷ h.before) s t i (ap (λ x. 42 ∷ x) u.0) e (last_of q s l n f))),
        λ f. subst (λ x. Fits true (42 ∷ x) s) (sym h.text) (subst (λ x. Fits true (42 ∷ (h.before ++ 37 ∷ 50 ∷ h.letter ∷ [])) x) (sym e) (fits_special (42
            ∷ h.before) t h.letter b h.is_escape (subst (λ x. Fits true (42 ∷ h.before) x) k (subst (λ x. Fits true (42 ∷ x) (take (length s - 1) s)) v f)))),
      );
      some = omega arith;
      in_pattern = omega (arith, ap length h.text, length-append h.before (37 ∷ 50 ∷ h.letter ∷ []));
      in_text = omega (arith, ap length e, length-append t (b ∷ []));
    }

-- ---- from the end on

pub nothing_wanted : (q s : List ℕ) → q ≡ [] → Fits true (42 ∷ q) s
nothing_wanted q s e = subst (λ x. Fits true (42 ∷ x) s) (sym e) (subst (λ x. Fits true (42 ∷ []) x) (append-nil s) (star s [] [] (ended [] (λ _. refl))))
