-- Triplet normal form of a text put together at a place where a triplet or another byte begins.
use Rattle.iri_percent.proofs.Common.{◌≡◌, ℕ, Bool, true, false, not, ◌&&◌, List, [], ◌∷◌, ◌++◌, Some, None, refl, sym, ◌∙◌, ap}
use Rattle.iri_percent.proofs.Common.{append_assoc, ◌==◌, list_all, is_ascii_hexdigit, encode_utf8, to_ascii_uppercase, cond, map, not-true}
use Rattle.iri_percent.proofs.Common.{Tests, unreserved, both, octet, octets, is_triplet, first_char, two_digits, whole_triplets, normal}
use Rattle.std.proofs.Common.{◌⊎◌, inl, inr}
use Rattle.iri_percent.proofs.units.AtStart.{octets_other, octets_triplet, first_char_is, char_first, is_continuation, encode_bytes}
use Rattle.iri_percent.proofs.forms.ByUnits.{normal_nil, normal_plain, normal_lone, normal_char}
use Rattle.iri_percent.proofs.units.WholeTriplets.{Reading, done, plain, char, lone, whole_plain, whole_triplet, whole_after, read}

-- octets that don't go on with a character
abbrev pub leads : List ℕ → Bool
leads [] = true
leads (o ∷ os) = not (is_continuation o)

-- ---- octets
abbrev Seam : List ℕ → List ℕ → Type 0
Seam xs r = (octets (xs ++ r) ≡ octets xs) ⊎ (octets (xs ++ r) ≡ octets xs ++ octets r)

seam_other : (x : ℕ) (xs r : List ℕ) → (x == 37) ≡ false → Seam (x ∷ xs) r
seam_other x xs r h = inl (octets_other x (xs ++ r) h ∙ sym (octets_other x xs h))

seam_short : (x : ℕ) (xs r : List ℕ) → two_digits xs ≡ false → whole_triplets (x ∷ xs) ≡ true → Seam (x ∷ xs) r
unfolding whole_triplets
seam_short x xs r e w =
    elim (x == 37) as (λ b. (x == 37) ≡ b → (cond b (two_digits xs) true && whole_triplets xs) ≡ true → Seam (x ∷ xs) r) [
      | true ↦ λ _ k. let no : (false && whole_triplets xs) ≡ true = ap (λ b. b && whole_triplets xs) (sym e) ∙ k in cc
      | false ↦ λ n _. seam_other x xs r n
    ] refl w

octets-seam : (xs r : List ℕ) → whole_triplets xs ≡ true → Seam xs r
unfolding whole_triplets
octets-seam [] r w = inr refl
octets-seam (x ∷ []) r w = seam_short x [] r refl w
octets-seam (x ∷ a ∷ []) r w = seam_short x (a ∷ []) r refl w
octets-seam (x ∷ a ∷ b ∷ xs) r w =
    let after = (both (cond (b == 37) (two_digits xs) true) (whole_triplets xs)
    (both (cond (a == 37) (two_digits (b ∷ xs)) true) (whole_triplets (b ∷ xs))
    (both (cond (x == 37) (two_digits (a ∷ b ∷ xs)) true) (whole_triplets (a ∷ b ∷ xs)) w).1).1).1 in
    elim (is_triplet x a b) as (λ v. (cond v (octet a b ∷ octets (xs ++ r)) [] ≡ cond v (octet a b ∷ octets xs) [])
    ⊎ (cond v (octet a b ∷ octets (xs ++ r)) [] ≡ cond v (octet a b ∷ octets xs) [] ++ octets r)) [
      | true ↦ elim (octets-seam xs r after) [ inl e ↦ inl (ap (λ l. octet a b ∷ l) e) | inr e ↦ inr (ap (λ l. octet a b ∷ l) e) ]
      | false ↦ inl refl
    ]

-- ---- characters
prefix_of : (os tl qs rest : List ℕ) → os ++ qs ≡ tl ++ rest → list_all is_continuation tl ≡ true → leads qs ≡ true
    → (k : List ℕ) × (os ≡ tl ++ k)
prefix_of os [] qs rest e h l = (os, refl)
prefix_of [] (t ∷ tl) [] rest e h l = cc
prefix_of [] (t ∷ tl) (q ∷ qs) rest e h l =
    let same : q ≡ t = cc in
    let no : is_continuation q ≡ true = ap is_continuation same ∙ (both (is_continuation t) (list_all is_continuation tl) h).0 in
    let yes' : is_continuation q ≡ false = not-true (is_continuation q) l in
    cc
prefix_of (o ∷ os) (t ∷ tl) qs rest e h l =
    let same : o ≡ t = cc in
    let tail : os ++ qs ≡ tl ++ rest = cc in
    let r = prefix_of os tl qs rest tail (both (is_continuation t) (list_all is_continuation tl) h).1 l in
    (r.0, ap (λ n. n ∷ os) same ∙ ap (λ ys. t ∷ ys) r.1)

none-seam : (o : ℕ) (os qs : List ℕ) → leads qs ≡ true → first_char (o ∷ os) ≡ None → first_char (o ∷ (os ++ qs)) ≡ None
none-seam o os qs l n =
    elim (first_char (o ∷ (os ++ qs))) as (λ v. first_char (o ∷ (os ++ qs)) ≡ v → v ≡ None) [
      | None ↦ λ _. refl
      | Some c ↦ λ h.
          let g = first_char_is (o ∷ (os ++ qs)) c h in
          let b = encode_bytes c in
          let w : o ∷ (os ++ qs) ≡ b.lead ∷ (b.tail ++ g.rest) = g.split ∙ ap (λ z. z ++ g.rest) b.split in
          let first : o ≡ b.lead = cc in
          let tail : os ++ qs ≡ b.tail ++ g.rest = cc in
          let r = prefix_of os b.tail qs g.rest tail b.continue l in
          let whole : o ∷ os ≡ encode_utf8 c ++ r.0 =
          ap (λ z. z ∷ os) first ∙ ap (λ ys. b.lead ∷ ys) r.1 ∙ ap (λ z. z ++ r.0) (sym b.split) in
          let there : first_char (o ∷ os) ≡ Some c = ap first_char whole ∙ char_first c r.0 g.is_scalar in
          cc
    ] refl

pub lone-seam : (a b : ℕ) (xs r : List ℕ) → is_ascii_hexdigit a ≡ true → is_ascii_hexdigit b ≡ true → whole_triplets xs ≡ true
    → leads (octets r) ≡ true → first_char (octets (37 ∷ a ∷ b ∷ xs)) ≡ None → first_char (octets (37 ∷ a ∷ b ∷ (xs ++ r))) ≡ None
lone-seam a b xs r p q w l n =
    let old : first_char (octet a b ∷ octets xs) ≡ None = ap first_char (sym (octets_triplet a b xs p q)) ∙ n in
    ap first_char (octets_triplet a b (xs ++ r) p q) ∙ (elim (octets-seam xs r w) [
      | inl e ↦ ap (λ os. first_char (octet a b ∷ os)) e ∙ old
      | inr e ↦ ap (λ os. first_char (octet a b ∷ os)) e ∙ none-seam (octet a b) (octets xs) (octets r) l old
    ])

-- ---- the normal form
seam_read : (s : Tests) (f : ℕ → ℕ) (t r : List ℕ) → Reading t → whole_triplets t ≡ true → leads (octets r) ≡ true
    → normal s f (t ++ r) ≡ normal s f t ++ normal s f r
seam_read s f t r done w l = ap (λ z. z ++ normal s f r) (sym (normal_nil s f))
seam_read s f t r (plain x xs h k) w l =
    normal_plain s f x (xs ++ r) h ∙ ap (λ z. f x ∷ z) (seam_read s f xs r k (sym (whole_plain x xs h) ∙ w) l)
    ∙ ap (λ z. z ++ normal s f r) (sym (normal_plain s f x xs h))
seam_read s f t r (char c sp xs h sps k) w l =
    let u = cond (unreserved s c) (map f (encode_utf8 c)) (map to_ascii_uppercase sp) in
    ap (normal s f) (append_assoc sp xs r)
    ∙ normal_char s f c sp (xs ++ r) h sps
    ∙ ap (λ z. u ++ z) (seam_read s f xs r k (sym (whole_after sp (encode_utf8 c) xs sps) ∙ w) l)
    ∙ sym (append_assoc u (normal s f xs) (normal s f r))
    ∙ ap (λ z. z ++ normal s f r) (sym (normal_char s f c sp xs h sps))
seam_read s f t r (lone a b xs p q n k) w l =
    let after : whole_triplets xs ≡ true = sym (whole_triplet a b xs p q) ∙ w in
    normal_lone s f a b (xs ++ r) p q (lone-seam a b xs r p q after l n)
    ∙ ap (λ z. 37 ∷ to_ascii_uppercase a ∷ to_ascii_uppercase b ∷ z) (seam_read s f xs r k after l)
    ∙ ap (λ z. z ++ normal s f r) (sym (normal_lone s f a b xs p q n))

-- the triplet normal form of a text is that of its two sides, where no character in triplets goes on at the seam
pub normal-seam : (s : Tests) (f : ℕ → ℕ) (t r : List ℕ) → whole_triplets t ≡ true → leads (octets r) ≡ true
    → normal s f (t ++ r) ≡ normal s f t ++ normal s f r
normal-seam s f t r w l = seam_read s f t r (read t w) w l

-- ---- whole triplets on both sides
-- a text with whole triplets has them on both sides of a `%`
pub whole-percent : (a r : List ℕ) → whole_triplets (a ++ 37 ∷ r) ≡ true → whole_triplets a ≡ true
unfolding whole_triplets
whole-percent [] r w = refl
whole-percent (x ∷ []) r w =
    let k = both (cond (x == 37) (two_digits (37 ∷ r)) true) (whole_triplets (37 ∷ r)) w in
    elim (x == 37) as (λ b. cond b (two_digits (37 ∷ r)) true ≡ true
    → (cond b false true && true) ≡ true) [ true ↦ λ h. no_digits r h | false ↦ λ _. refl ] k.0
  where
    no_digits : (r : List ℕ) → two_digits (37 ∷ r) ≡ true → false ≡ true
    no_digits [] h = h
    no_digits (b ∷ bs) h = h
whole-percent (x ∷ y ∷ []) r w =
    let k = both (cond (x == 37) (is_ascii_hexdigit y && false) true) (whole_triplets (y ∷ 37 ∷ r)) w in
    let rest = whole-percent (y ∷ []) r k.1 in
    rw rest (elim (x == 37) as (λ b. cond b (is_ascii_hexdigit y && false) true ≡ true
    → (cond b false true && true) ≡ true) [ true ↦ λ h. (both (is_ascii_hexdigit y) false h).1 | false ↦ λ _. refl ] k.0)
whole-percent (x ∷ y ∷ z ∷ a) r w =
    let k = both (cond (x == 37) (two_digits (y ∷ z ∷ (a ++ 37 ∷ r))) true) (whole_triplets (y ∷ z ∷ (a ++ 37 ∷ r))) w in
    rw k.0 (whole-percent (y ∷ z ∷ a) r k.1)

pub whole-after : (a r : List ℕ) → whole_triplets (a ++ r) ≡ true → whole_triplets r ≡ true
unfolding whole_triplets
whole-after [] r w = w
whole-after (x ∷ a) r w = whole-after a r (both (cond (x == 37) (two_digits (a ++ r)) true) (whole_triplets (a ++ r)) w).1
