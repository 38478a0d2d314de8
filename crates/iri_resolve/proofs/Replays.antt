-- Steps that lead from parts to others, and a replay of one step more.
use Rattle.iri_resolve.proofs.Common.{option_and_then, ◌≡◌, ℕ, ◌+◌, ◌*◌, Bool, true, false, List, [], ◌∷◌, ◌++◌, Option, Some, None, length}
use Rattle.iri_resolve.proofs.Common.{refl, sym, ◌∙◌, ap, arith, drop, is_ascii_hexdigit, to_ascii_uppercase, len_utf8, encode_utf8}
use Rattle.iri_resolve.proofs.Common.{get_or-append_seam, set-append_seam, nat_tests, Tests, Parts, octets, whole_triplets, decoded}
use Rattle.iri_resolve.proofs.Common.{CanonMode, is_small_digit, with_capital_digit, with_character, with_decoded, step_in, replayed_in}
use Rattle.iri_resolve.proofs.Common.{Step, zero, suc, take}
use Rattle.iri_percent.proofs.forms.Seams.{whole-after}
use Rattle.std.proofs.Math.Seq.{take-append_seam, drop-append_seam, drop-append-add}
use Rattle.std.specs.Prelude.{slice_get}

-- ---- steps one after the other, and changes in the middle of a text
-- ---- steps one after the other
pub replayed_in-append : (s : Tests) (c : CanonMode) (t u : Parts) (l m : List Step) → replayed_in s c t l ≡ Some u
    → replayed_in s c t (l ++ m) ≡ replayed_in s c u m
unfolding replayed_in
replayed_in-append s c t u [] m h = let same : t ≡ u = cc in ap (λ v. replayed_in s c v m) same
replayed_in-append s c t u (x ∷ l) m h = at (step_in s c t x) h (λ w k. replayed_in-append s c w u l m k)
  where
    at : (o : Option Parts) → option_and_then (λ v. replayed_in s c v l) o ≡ Some u
        → ((w : Parts) → replayed_in s c w l ≡ Some u → replayed_in s c w (l ++ m) ≡ replayed_in s c u m)
        → option_and_then (λ v. replayed_in s c v (l ++ m)) o ≡ replayed_in s c u m
    at None k go = cc
    at (Some w) k go = go w k

-- the steps l lead from the text x to the text y in its place; `ok` is what its texts keep
pub record Led (s : Tests) (m : CanonMode) (ok : List ℕ → Bool) (put : List ℕ → Parts) (x : List ℕ) (l : List Step) (y : List ℕ) : Type 0 where
  pub leads : replayed_in s m (put x) l ≡ Some (put y)
  pub good : ok y ≡ true

pub led-nothing : (s : Tests) (m : CanonMode) (ok : List ℕ → Bool) (put : List ℕ → Parts) (x : List ℕ) → ok x ≡ true → Led s m ok put x [] x
unfolding replayed_in
led-nothing s m ok put x h = record { leads = refl; good = h }

pub led-step : (s : Tests) (m : CanonMode) (ok : List ℕ → Bool) (put : List ℕ → Parts) (x y : List ℕ) (n : Step)
    → step_in s m (put x) n ≡ Some (put y) → ok y ≡ true → Led s m ok put x (n ∷ []) y
unfolding replayed_in
led-step s m ok put x y n h g = record { leads = ap (λ o. option_and_then (λ v. Some v) o) h; good = g }

pub led-on : (s : Tests) (m : CanonMode) (ok : List ℕ → Bool) (put : List ℕ → Parts) (x y z : List ℕ) (l n : List Step) → Led s m ok put x l y
    → Led s m ok put y n z → Led s m ok put x (l ++ n) z
led-on s m ok put x y z l n a b = record { leads = replayed_in-append s m (put x) (put y) l n a.leads ∙ b.leads; good = b.good }

-- ---- whole triplets
pub whole_nil : whole_triplets [] ≡ true
unfolding whole_triplets
whole_nil = refl

pub whole_percent : whole_triplets (37 ∷ []) ≡ false
unfolding whole_triplets
whole_percent = refl

pub not-whole : (a r : List ℕ) → whole_triplets r ≡ false → whole_triplets (a ++ r) ≡ false
not-whole a r h =
    elim (whole_triplets (a ++ r)) as (λ b. whole_triplets (a ++ r) ≡ b
    → b ≡ false) [ true ↦ λ e. let no : true ≡ false = sym (whole-after a r e) ∙ h in cc | false ↦ λ _. refl ] refl

-- ---- changes in the middle of a text
pub capital-at : (a r : List ℕ) (x : ℕ) → whole_triplets a ≡ false → is_small_digit x ≡ true
    → with_capital_digit (length a) (a ++ x ∷ r) ≡ Some (a ++ to_ascii_uppercase x ∷ r)
unfolding with_capital_digit
capital-at a r x w h = rw (take-append_seam a (x ∷ r), get_or-append_seam a x r 0, w, h)
    (ap Some (set-append_seam a x r (to_ascii_uppercase x)))

pub capital_same : (x : ℕ) → is_ascii_hexdigit x ≡ true → is_small_digit x ≡ false → to_ascii_uppercase x ≡ x
capital_same x p h = grind (arith, nat_tests)

pub decoded-at : (s : Tests) (a t : List ℕ) (c : ℕ) → decoded s (octets t) ≡ Some c
    → with_decoded s (length a) (a ++ t) ≡ Some (a ++ (encode_utf8 c ++ drop (3 * len_utf8 c) t))
unfolding with_decoded
decoded-at s a t c e =
    ap (λ z. with_character (length a) (a ++ t) (decoded s (octets z))) (drop-append_seam a t)
    ∙ ap (with_character (length a) (a ++ t)) e
    ∙ ap (λ z. Some (z ++ (encode_utf8 c ++ drop (length a + 3 * len_utf8 c) (a ++ t)))) (take-append_seam a t)
    ∙ ap (λ z. Some (a ++ (encode_utf8 c ++ z))) (drop-append-add a t (3 * len_utf8 c))

-- ---- one step more
take_next : (l : List Step) (k : ℕ) (x : Step) → slice_get l k ≡ Some x → take (suc k) l ≡ take k l ++ x ∷ []
take_next [] k x h = cc
take_next (y ∷ ys) zero x h = let same : y ≡ x = cc in ap (λ z. z ∷ []) same
take_next (y ∷ ys) (suc k) x h = ap (λ z. y ∷ z) (take_next ys k x h)

pub one_more : (s : Tests) (c : CanonMode) (t u v : Parts) (l : List Step) (k : ℕ) (x : Step) → replayed_in s c t (take k l) ≡ Some u
    → slice_get l k ≡ Some x → step_in s c u x ≡ Some v → replayed_in s c t (take (k + 1) l) ≡ Some v
unfolding replayed_in
one_more s c t u v l k x r g h =
    let next : k + 1 ≡ suc k = omega arith in
    ap (λ n. replayed_in s c t (take n l)) next ∙ ap (replayed_in s c t) (take_next l k x g)
    ∙ replayed_in-append s c t u (take k l) (x ∷ []) r ∙ ap (λ o. option_and_then (λ w. Some w) o) h

pub none_yet : (s : Tests) (c : CanonMode) (t : Parts) (l : List Step) → replayed_in s c t (take 0 l) ≡ Some t
unfolding replayed_in
none_yet s c t l = refl
