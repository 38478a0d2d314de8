-- Parts of a list, and lines in them.
use Rattle.iri_text.proofs.Common.{◌≡◌, inl, inr, ℕ, zero, suc, ◌+◌, ◌-◌, ◌<◌, ◌≤◌, List, [], ◌∷◌, ◌++◌, length, get_or, take, drop}
use Rattle.iri_text.proofs.Common.{slice_range, Option, None, Some, refl, sym, ◌∙◌, ap, subst, arith, take_all, nat_tests, NoLf, no_cr}
use Rattle.std.proofs.Common.{◌≢◌, MatchOption, take-add, drop-drop, eq-eqb, eqb-true, false}
use Rattle.std.proofs.Math.Seq.{take-suc, take-length}
use Rattle.std.proofs.Math.Dec.{ltb}
use Rattle.std.proofs.lemmas.Bool.{ltb-false, le-ltb, cases_lt}
use Rattle.std.proofs.lemmas.List.{take_at}
use Rattle.std.proofs.lemmas.Grind.{common_steps}
use Rattle.memchr.specs.Find.{IsFirstByte, is_byte}
use Rattle.iri_text.specs.inside.Layout.{IsFirstLf}

pub length-part : (xs : List ℕ) (a b : ℕ) → b ≤ length xs → length (slice_range xs a b) ≡ b - a
length-part xs a b h = grind (arith, common_steps)

pub get_or-part : (xs : List ℕ) (a b i : ℕ) → i < b - a → get_or (slice_range xs a b) i 0 ≡ get_or xs (a + i) 0
get_or-part xs a b i h = grind (arith, common_steps)

pub part-split : (xs : List ℕ) (a m b : ℕ) → a ≤ m → m ≤ b → slice_range xs a b ≡ slice_range xs a m ++ slice_range xs m b
part-split xs a m b h k =
    let whole : b - a ≡ (m - a) + (b - m) = omega arith in
    let back : a + (m - a) ≡ m = omega arith in
    ap (λ (n : ℕ). take n (drop a xs)) whole ∙ take-add (m - a) (b - m) (drop a xs)
    ∙ ap (λ (l : List ℕ). slice_range xs a m ++ take (b - m) l) (drop-drop (m - a) a xs ∙ ap (λ (n : ℕ). drop n xs) back)

pub NoLf-append : (xs ys : List ℕ) → NoLf xs → NoLf ys → NoLf (xs ++ ys)
NoLf-append [] ys p q = q
NoLf-append (x ∷ xs) ys p q = (p.0, NoLf-append xs ys p.1 q)

pub NoLf-nowhere : (xs : List ℕ) → ((k : ℕ) → k < length xs → get_or xs k 0 ≢ 10) → NoLf xs
NoLf-nowhere [] f = tt
NoLf-nowhere (x ∷ xs) f = (f 0 (omega arith), NoLf-nowhere xs (λ k h. f (suc k) (omega arith)))

pub no_cr-cr : (xs : List ℕ) → no_cr (xs ++ 13 ∷ []) ≡ xs
no_cr-cr [] = refl
no_cr-cr (x ∷ []) = refl
no_cr-cr (x ∷ y ∷ xs) = ap (λ l. x ∷ l) (no_cr-cr (y ∷ xs))

pub no_cr-other : (xs : List ℕ) (b : ℕ) → b ≢ 13 → no_cr (xs ++ b ∷ []) ≡ xs ++ b ∷ []
no_cr-other [] b h = grind (arith, nat_tests)
no_cr-other (x ∷ []) b h = ap (λ l. x ∷ l) (no_cr-other [] b h)
no_cr-other (x ∷ y ∷ xs) b h = ap (λ l. x ∷ l) (no_cr-other (y ∷ xs) b h)

-- what a search of a part says
pub found : (xs : List ℕ) (a b : ℕ) (r : Option ℕ) → a ≤ b → b ≤ length xs → IsFirstByte (is_byte 10) (slice_range xs a b) r
    → MatchOption r (NoLf (slice_range xs a b)) (λ i. (i < b - a) × NoLf (slice_range xs a (a + i)) × (get_or xs (a + i) 0 ≡ 10))
found xs a b None h k is = NoLf-nowhere (slice_range xs a b) (λ i l e. is i (omega arith) l (eq-eqb _ _ e))
found xs a b (Some i) h k is =
    let long = length-part xs a b k in
    let low : i < b - a = omega (arith, is.0.high, long) in
    let none : (j : ℕ) → j < length (slice_range xs a (a + i)) → get_or (slice_range xs a (a + i)) j 0 ≢ 10 = (λ j l e.
    let short = length-part xs a (a + i) (omega (arith, low, k, h)) in
    let l' : j < (a + i) - a = omega (arith, l, short) in
    let l'' : j < i = omega arith in
    is.0.before j (omega arith) l'' (eq-eqb _ _ (get_or-part xs a b j (omega (arith, l'', low))
    ∙ sym (get_or-part xs a (a + i) j l') ∙ e))) in
    (low, NoLf-nowhere _ none, sym (get_or-part xs a b i low) ∙ eqb-true _ _ is.1)

-- where no byte is an LF, this one isn't
no_lf_at : (xs : List ℕ) (i : ℕ) → NoLf xs → i < length xs → get_or xs i 0 ≢ 10
no_lf_at [] i n h = absurd (omega arith)
no_lf_at (x ∷ xs) zero n h = n.0
no_lf_at (x ∷ xs) (suc i) n h = no_lf_at xs i n.1 (omega arith)

-- whether a part has an LF, by the place of the first one
pub lf_told : (xs : List ℕ) (a b lf : ℕ) → b ≤ length xs → IsFirstLf (slice_range xs a b) lf
    → (NoLf (slice_range xs a b) → ltb lf (b - a) ≡ false) × (ltb lf (b - a) ≡ false → NoLf (slice_range xs a b))
lf_told xs a b lf h is =
    let long = length-part xs a b h in (
      λ n. elim (cases_lt lf (b - a)) [
        | inl l ↦ absurd (no_lf_at (slice_range xs a b) lf n (omega (arith, long, l)) (is.found (omega (arith, long, l))))
        | inr l ↦ le-ltb lf (b - a) l
      ],
      λ t. subst NoLf (take_all lf (slice_range xs a b) (omega (arith, long, ltb-false lf (b - a) t))) is.no_lf,
    )

pub NoLf-take : (xs : List ℕ) (m n : ℕ) → m ≤ n → NoLf (take n xs) → NoLf (take m xs)
NoLf-take xs zero n h p = tt
NoLf-take [] (suc m) n h p = tt
NoLf-take (x ∷ xs) (suc m) zero h p = absurd (omega arith)
NoLf-take (x ∷ xs) (suc m) (suc n) h p = (p.0, NoLf-take xs m n (omega arith) p.1)

-- what was seen and what was found after it
pub NoLf-further : (xs : List ℕ) (a b : ℕ) → a ≤ b → NoLf (take a xs) → NoLf (slice_range xs a b) → NoLf (take b xs)
NoLf-further xs a b h p q =
    let e : a + (b - a) ≡ b = omega arith in
    subst NoLf (sym (take-add a (b - a) xs) ∙ ap (λ (n : ℕ). take n xs) e) (NoLf-append (take a xs) (slice_range xs a b) p q)

-- the last byte
last-is : (xs : List ℕ) → 0 < length xs → take (length xs - 1) xs ++ get_or xs (length xs - 1) 0 ∷ [] ≡ xs
last-is xs h =
    let e : suc (length xs - 1) ≡ length xs = omega arith in
    sym (take-suc xs (length xs - 1) 0 (omega arith)) ∙ ap (λ (n : ℕ). take n xs) e ∙ take-length xs

pub cr-len : (xs prefix : List ℕ) → xs ≡ prefix ++ 13 ∷ [] → take (length prefix) xs ≡ no_cr xs
cr-len xs prefix e = ap (take (length prefix)) e ∙ take_at prefix (13 ∷ []) (length prefix) refl ∙ sym (ap no_cr e ∙ no_cr-cr prefix)

pub other-len : (xs : List ℕ) → ((prefix : List ℕ) → xs ≢ prefix ++ 13 ∷ []) → take (length xs) xs ≡ no_cr xs
other-len [] n = refl
other-len (x ∷ xs) n =
    let t = x ∷ xs in
    let last : 0 < length t = omega arith in
    let other : get_or t (length t - 1) 0 ≢ 13 =
    (λ e. n (take (length t - 1) t) (sym (last-is t last) ∙ ap (λ c. take (length t - 1) t ++ c ∷ []) e)) in
    take-length t ∙ sym (last-is t last)
    ∙ sym (ap no_cr (sym (last-is t last)) ∙ no_cr-other (take (length t - 1) t) (get_or t (length t - 1) 0) other)

pub empty-part : (xs : List ℕ) (a b : ℕ) → b ≤ a → slice_range xs a b ≡ []
empty-part xs a b h = let e : b - a ≡ 0 = omega arith in rw e refl
