-- Every text is a row of bytes or characters as they stand, characters in triplets, lone triplets and stray percents.
use Rattle.iri_percent.proofs.Common.{◌≡◌, ℕ, zero, suc, ◌≤◌, true, false, ◌&&◌, List, [], ◌∷◌, ◌++◌, Some, None, length, refl, sym, ap}
use Rattle.iri_percent.proofs.Common.{subst, arith, length-append, eqb-true, ◌==◌, is_ascii_hexdigit, encode_utf8, scalar, both, octets}
use Rattle.iri_percent.proofs.Common.{first_char, two_digits}
use Rattle.iri_percent.proofs.units.AtStart.{Spells, first_char_is}
use Rattle.iri_percent.proofs.forms.ByUnits.{PrefixTriplet, prefix_triplet}

pub data TextReading : List ℕ → Type 0 where
  nothing : TextReading []
  other : (x : ℕ) (xs : List ℕ) → (x == 37) ≡ false → TextReading xs → TextReading (x ∷ xs)
  spelled_char : (c : ℕ) (sp xs : List ℕ) → scalar c ≡ true → Spells sp (encode_utf8 c) → TextReading xs → TextReading (sp ++ xs)
  lone_triplet : (a b : ℕ) (xs : List ℕ) → is_ascii_hexdigit a ≡ true → is_ascii_hexdigit b ≡ true
      → first_char (octets (37 ∷ a ∷ b ∷ xs)) ≡ None → TextReading xs → TextReading (37 ∷ a ∷ b ∷ xs)
  stray_percent : (xs : List ℕ) → two_digits xs ≡ false → TextReading xs → TextReading (37 ∷ xs)

-- a triplet at the start, and what is read after it or after its character
prefix : (n a b : ℕ) (ys : List ℕ) → length (37 ∷ a ∷ b ∷ ys) ≤ suc n → is_ascii_hexdigit a ≡ true → is_ascii_hexdigit b ≡ true
    → ((t : List ℕ) → length t ≤ n → TextReading t) → TextReading (37 ∷ a ∷ b ∷ ys)
prefix n a b ys l p q read =
    elim (first_char (octets (37 ∷ a ∷ b ∷ ys))) as (λ o. first_char (octets (37 ∷ a ∷ b ∷ ys)) ≡ o → TextReading (37 ∷ a ∷ b ∷ ys)) [
      | None ↦ λ e. lone_triplet a b ys p q e (read ys (omega arith))
      | Some c ↦ λ e. let g = first_char_is (octets (37 ∷ a ∷ b ∷ ys)) c e in at c g.is_scalar (prefix_triplet c a b ys p q g)
    ] refl
  where
    at : (c : ℕ) → scalar c ≡ true → PrefixTriplet c a b ys → TextReading (37 ∷ a ∷ b ∷ ys)
    at c h r =
        let short : length r.rest ≤ n = omega (arith, l, ap length r.text, length-append r.sp r.rest) in
        subst (λ t. TextReading (37 ∷ a ∷ b ∷ t)) (sym r.text) (spelled_char c (37 ∷ a ∷ b ∷ r.sp) r.rest h r.whole (read r.rest short))

percent : (n : ℕ) (xs : List ℕ) → length (37 ∷ xs) ≤ suc n → ((t : List ℕ) → length t ≤ n → TextReading t) → TextReading (37 ∷ xs)
percent n [] l read = stray_percent [] refl nothing
percent n (a ∷ []) l read = stray_percent (a ∷ []) refl (read (a ∷ []) (omega arith))
percent n (a ∷ b ∷ ys) l read =
    elim (is_ascii_hexdigit a && is_ascii_hexdigit b) as (λ v. (is_ascii_hexdigit a && is_ascii_hexdigit b) ≡ v
    → TextReading (37 ∷ a ∷ b ∷ ys)) [
      | true ↦ λ e. let d = both (is_ascii_hexdigit a) (is_ascii_hexdigit b) e in prefix n a b ys l d.0 d.1 read
      | false ↦ λ e. stray_percent (a ∷ b ∷ ys) e (read (a ∷ b ∷ ys) (omega arith))
    ] refl

read_within : (n : ℕ) (t : List ℕ) → length t ≤ n → TextReading t
read_within n [] l = nothing
read_within zero (x ∷ xs) l = absurd (omega arith)
read_within (suc n) (x ∷ xs) l =
    elim (x == 37) as (λ b. (x == 37) ≡ b → TextReading (x ∷ xs)) [
      | false ↦ λ e. other x xs e (read_within n xs (omega arith))
      | true ↦ λ e. subst (λ y. TextReading (y ∷ xs)) (sym (eqb-true x 37 e)) (percent n xs l (λ t. read_within n t))
    ] refl

pub read_text : (t : List ℕ) → TextReading t
read_text t = read_within (length t) t (omega arith)
