-- Where the prefix of a pattern stands in a text, and what that leaves of the text.
use Rattle.std.proofs.Common.{◌≡◌, ◌≢◌, ◌↔◌, ℕ, zero, suc, ◌+◌, ◌<◌, ◌≤◌, Bool, true, List, [], ◌∷◌, ◌++◌, Option, Some, None, length, take, drop, slice_index}
use Rattle.std.proofs.Common.{refl, sym, ◌∙◌, ap, subst, arith, length-drop, eqb-true, ⊎_elim}
use Rattle.std.specs.Prelude.{MatchOption, is_some, false, ◌==◌}
use Rattle.std.proofs.lemmas.List.{length-take-le, get_or-take, get_or-append-add, length-append}
use Rattle.std.proofs.lemmas.Bool.{cases_lt}
use Rattle.std.proofs.Math.Seq.{drop-append_seam}
use Rattle.memchr.specs.Find.{OccursAt, FindsNeedle}
use Rattle.iri_robots.specs.inside.Fits.{Fits, IsSuffix, whole, later, FitsNot, NoEscape}
use Rattle.iri_robots.specs.inside.Plain.{IsPlainAt, HasPlainPrefix, KeepsFits, Keeps}
use Rattle.iri_robots.proofs.Moves.{suffix_split, suffix_trans, fits_star, star_fits, same_prefix}

-- ---- what is left of a text

drop_suffix : (i : ℕ) (s : List ℕ) → IsSuffix (drop i s) s
drop_suffix zero s = whole s
drop_suffix (suc i) [] = whole []
drop_suffix (suc i) (x ∷ s) = later x (drop i s) s (drop_suffix i s)

later_suffix : (i k : ℕ) (s : List ℕ) → i ≤ k → IsSuffix (drop k s) (drop i s)
later_suffix zero k s l = drop_suffix k s
later_suffix (suc i) zero s l = absurd (omega arith)
later_suffix (suc i) (suc k) [] l = whole []
later_suffix (suc i) (suc k) (x ∷ s) l = later_suffix i k s (omega arith)

-- what stands somewhere in a text stands in what is left of it from no later place
left_over : (t r s : List ℕ) (i : ℕ) → s ≡ t ++ r → i ≤ length t → IsSuffix r (drop i s)
left_over t r s i e l =
    let k : drop (length t) s ≡ r = ap (λ x. drop (length t) x) e ∙ drop-append_seam t r in
    subst (λ x. IsSuffix x (drop i s)) k (later_suffix i (length t) s l)

star_later : (a : Bool) (q r s : List ℕ) → IsSuffix r s → Fits a (42 ∷ q) r → Fits a (42 ∷ q) s
star_later a q r s h f = let k = fits_star a q r f in star_fits a q k.rest s (suffix_trans k.rest r s k.is_suffix h) k.fits

-- ---- a plain prefix

abbrev pub ReadsPrefix : List ℕ → List ℕ → ℕ → Type 0
ReadsPrefix q s n = (n ≤ length s) × ((j : ℕ) → j < n → slice_index s j ≡ slice_index q j)

read_each : (c : ℕ) (q t : List ℕ) (n : ℕ) → ((j : ℕ) → j < n → slice_index t j ≡ slice_index q j) → (j : ℕ) → j < suc n
    → slice_index (c ∷ t) j ≡ slice_index (c ∷ q) j
read_each c q t n h zero l = refl
read_each c q t n h (suc j) l = h j (omega arith)

read_more : (c : ℕ) (q t : List ℕ) (n : ℕ) → ReadsPrefix q t n → ReadsPrefix (c ∷ q) (c ∷ t) (suc n)
read_more c q t n h = let k = h.0 in (omega arith, read_each c q t n h.1)

plain_reads : (a : Bool) (q s : List ℕ) (n : ℕ) → ((k : ℕ) → k < n → IsPlainAt q k) → n ≤ length q → Fits a q s → ReadsPrefix q s n
plain_reads a q s zero h l f = (omega arith, λ j k. absurd (omega arith))
plain_reads a [] s (suc n) h l f = absurd (omega arith)
plain_reads a (c ∷ q) s (suc n) h l f =
    let p = h 0 (omega arith) in
    let k = same_prefix a c q s p.no_star p.no_escape f in
    let i = plain_reads a q k.0 n (λ j m. let r = h (suc j) (omega arith) in record { no_star = r.no_star; no_escape = r.no_escape }) (omega arith) k.2 in
    subst (λ x. ReadsPrefix (c ∷ q) x (suc n)) (sym k.1) (read_more c q k.0 n i)

occurs_prefix : (q s : List ℕ) (n : ℕ) → n ≤ length q → ReadsPrefix q s n → OccursAt s (take n q) 0
occurs_prefix q s n l h =
    let k = length-take-le n q l in
    let m = h.0 in
    record {
      fits = omega arith;
      reads = λ j i. let w : 0 + j ≡ j = omega arith in ap (λ x. slice_index s x) w ∙ (h.1 j (omega arith) ∙ sym (get_or-take n q j 0 (omega arith)));
    }

occurs_later : (p t r s : List ℕ) → s ≡ t ++ r → OccursAt r p 0 → OccursAt s p (length t)
occurs_later p t r s e h =
    let k = h.fits in
    let l = ap length e ∙ length-append t r in
    record {
      fits = omega arith;
      reads = λ j i. let w : j ≡ 0 + j = omega arith in ap (λ x. slice_index x (length t + j)) e ∙ (get_or-append-add t r j 0 ∙ (ap (λ x. slice_index
          r x) w ∙ h.reads j i));
    }

pub plain_none : (q : List ℕ) → HasPlainPrefix q 0
plain_none q = record { within = omega arith; plain = λ k l. absurd (omega arith) }

pub plain_more : (q r : List ℕ) (n : ℕ) → HasPlainPrefix q n → n < length q → slice_index q n ≢ 42 → r ≡ drop n q → NoEscape r
    → HasPlainPrefix q (n + 1)
plain_more q r n h l m e k =
    let here : IsPlainAt q n = record { no_star = m; no_escape = subst (λ x. NoEscape x) e k } in
    record {
      within = omega arith;
      plain = λ j i. ⊎_elim (λ y. h.plain j y) (λ y. let w : n ≡ j = omega arith in subst (λ x. IsPlainAt q x) w here) (cases_lt j n);
    }

pub no_value : {X : Type 0} → (r : Option X) (P : Type 0) (Q : X → Type 0) → is_some r ≡ false → MatchOption r P Q → P
no_value None P Q e h = h
no_value (Some m) P Q e h = cc

-- where a pattern fits, its plain prefix stands
prefix_stands : (a : Bool) (q t r s : List ℕ) (n : ℕ) → HasPlainPrefix q n → s ≡ t ++ r → Fits a q r → OccursAt s (take n q) (length t)
prefix_stands a q t r s n h e f = occurs_later (take n q) t r s e (occurs_prefix q r n h.within (plain_reads a q r n h.plain h.within f))

pub prefix_missing : (a : Bool) (q s : List ℕ) (n : ℕ) → HasPlainPrefix q n → FindsNeedle s (take n q) 0 None → FitsNot a (42 ∷ q) s
prefix_missing a q s n h m = record {
  none = λ f.
      let k = fits_star a q s f in
      let t = suffix_split k.rest s k.is_suffix in
      let o = prefix_stands a q t.0 k.rest s n h t.1 k.fits in
      let w = o.fits in
      m (length t.0) (omega arith) (omega arith) o;
}

prefix_onward : (a : Bool) (q s : List ℕ) (n i : ℕ) → HasPlainPrefix q n → ((k : ℕ) → 0 ≤ k → k < i → ¬ OccursAt s (take n q) k)
    → Fits a (42 ∷ q) s → Fits a (42 ∷ q) (drop i s)
prefix_onward a q s n i h m f =
    let k = fits_star a q s f in
    let t = suffix_split k.rest s k.is_suffix in
    let o = prefix_stands a q t.0 k.rest s n h t.1 k.fits in
    let l : i ≤ length t.0 = ⊎_elim (λ y. absurd (m (length t.0) (omega arith) y o)) (λ y. y) (cases_lt (length t.0) i) in
    star_fits a q k.rest (drop i s) (left_over t.0 k.rest s i t.1 l) k.fits

pub prefix_found : (a : Bool) (q s rest : List ℕ) (n i : ℕ) → HasPlainPrefix q n → FindsNeedle s (take n q) 0 (Some i) → rest ≡ drop i s
    → KeepsFits a q s rest
prefix_found a q s rest n i h m e =
    let l = ap length e ∙ length-drop i s in
    record {
      fits = subst (λ x. Fits a (42 ∷ q) s ↔ Fits a (42 ∷ q) x) (sym e) (
        prefix_onward a q s n i h m.0.before,
        star_later a q (drop i s) s
            (drop_suffix i s),
      );
      within = omega arith;
    }

pub kept_both : (a : Bool) (q s s' s'' : List ℕ) → KeepsFits a q s s' → KeepsFits a q s' s'' → KeepsFits a q s s''
kept_both a q s s' s'' h k =
    let m = h.within in
    let n = k.within in
    record { fits = (λ f. k.fits.0 (h.fits.0 f), λ f. h.fits.1 (k.fits.1 f)); within = omega arith }

-- ---- no place is left

suffix_nil : (r : List ℕ) → IsSuffix r [] → r ≡ []
suffix_nil r (whole s) = refl

pub nothing_left : (a : Bool) (q s : List ℕ) → FitsNot a q s → (length s == 0) ≡ true → FitsNot a (42 ∷ q) s
nothing_left a q [] n h = record {
  none = λ f. let k = fits_star a q [] f in n.none (subst (λ x. Fits a q x) (suffix_nil k.rest k.is_suffix) k.fits);
}
nothing_left a q (x ∷ s) n h = let k = eqb-true (length (x ∷ s)) 0 h in absurd (omega arith)

pub found_stands : (q s rest : List ℕ) (n i : ℕ) → HasPlainPrefix q n → FindsNeedle s (take n q) 0 (Some i) → rest ≡ drop i s → Keeps q s rest
found_stands q s rest n i h m e a = prefix_found a q s rest n i h m e
