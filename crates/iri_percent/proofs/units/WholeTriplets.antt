-- A text without stray `%` is a row of characters as they stand, characters in triplets, and lone triplets.
use Rattle.iri_percent.proofs.Common.{◌≡◌, ℕ, true, false, List, [], ◌∷◌, ◌++◌, None, refl, sym, ◌∙◌, ◌==◌, is_ascii_hexdigit, encode_utf8}
use Rattle.iri_percent.proofs.Common.{scalar, both, octets, first_char, two_digits, whole_triplets}
use Rattle.iri_percent.proofs.units.AtStart.{Spells, none, more, hex_apart}
use Rattle.iri_percent.proofs.units.Readings.{TextReading, nothing, other, spelled_char, lone_triplet, stray_percent, read_text}

pub data Reading : List ℕ → Type 0 where
  done : Reading []
  plain : (x : ℕ) (xs : List ℕ) → (x == 37) ≡ false → Reading xs → Reading (x ∷ xs)
  char : (c : ℕ) (sp xs : List ℕ) → scalar c ≡ true → Spells sp (encode_utf8 c) → Reading xs → Reading (sp ++ xs)
  lone : (a b : ℕ) (xs : List ℕ) → is_ascii_hexdigit a ≡ true → is_ascii_hexdigit b ≡ true → first_char (octets (37 ∷ a ∷ b ∷ xs)) ≡ None
      → Reading xs → Reading (37 ∷ a ∷ b ∷ xs)

pub whole_plain : (x : ℕ) (xs : List ℕ) → (x == 37) ≡ false → whole_triplets (x ∷ xs) ≡ whole_triplets xs
unfolding whole_triplets
whole_plain x xs h = rw h refl

pub whole_triplet : (a b : ℕ) (xs : List ℕ) → is_ascii_hexdigit a ≡ true → is_ascii_hexdigit b ≡ true
    → whole_triplets (37 ∷ a ∷ b ∷ xs) ≡ whole_triplets xs
unfolding whole_triplets
whole_triplet a b xs p q = rw (p, q) (whole_plain a (b ∷ xs) (hex_apart a p) ∙ whole_plain b xs (hex_apart b q))

-- what follows a `%`
pub record Follows (xs : List ℕ) : Type 0 where
  pub a : ℕ
  pub b : ℕ
  pub ys : List ℕ
  pub text : xs ≡ a ∷ b ∷ ys
  pub first : is_ascii_hexdigit a ≡ true
  pub second : is_ascii_hexdigit b ≡ true

pub digits_follow : (xs : List ℕ) → two_digits xs ≡ true → Follows xs
digits_follow [] h = cc
digits_follow (a ∷ []) h = cc
digits_follow (a ∷ b ∷ ys) h = let k = both (is_ascii_hexdigit a) (is_ascii_hexdigit b) h in
    record { a = a; b = b; ys = ys; text = refl; first = k.0; second = k.1 }

pub percent_follows : (xs : List ℕ) → whole_triplets (37 ∷ xs) ≡ true → Follows xs
unfolding whole_triplets
percent_follows xs h = digits_follow xs (both (two_digits xs) (whole_triplets xs) h).0

pub whole_after : (sp os xs : List ℕ) → Spells sp os → whole_triplets (sp ++ xs) ≡ whole_triplets xs
whole_after sp os xs none = refl
whole_after sp os xs (more a b sp' os' p q k) = whole_triplet a b (sp' ++ xs) p q ∙ whole_after sp' os' xs k

of_text : (t : List ℕ) → TextReading t → whole_triplets t ≡ true → Reading t
unfolding whole_triplets
of_text _ nothing w = done
of_text _ (other x xs e r) w = plain x xs e (of_text xs r (sym (whole_plain x xs e) ∙ w))
of_text _ (spelled_char c sp xs h k r) w = char c sp xs h k (of_text xs r (sym (whole_after sp (encode_utf8 c) xs k) ∙ w))
of_text _ (lone_triplet a b xs p q n r) w = lone a b xs p q n (of_text xs r (sym (whole_triplet a b xs p q) ∙ w))
of_text _ (stray_percent xs e r) w = let no : false ≡ true = sym e ∙ (both (two_digits xs) (whole_triplets xs) w).0 in cc

pub read : (t : List ℕ) → whole_triplets t ≡ true → Reading t
read t w = of_text t (read_text t) w
