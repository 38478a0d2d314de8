-- Delimiters and slashes of a mapped text.
use Rattle.iri_percent.proofs.Common.{◌≡◌, ℕ, ◌<◌, true, false, cond, not, ◌&&◌, List, [], ◌∷◌, ◌++◌, refl, sym, ◌∙◌, ap, arith, ◌==◌, ◌/◌}
use Rattle.iri_percent.proofs.Common.{◌%◌, nat_lt, nat_tests, before, lacks, capital_hex, triplet, mapped}
use Rattle.iri_grammar.specs.Parts.{is_empty, starts_with_slash, starts_with_slashes}
use Rattle.iri_percent.proofs.mapping.Texts.{mapped-low, mapped-high}

-- an ASCII byte that stands in no triplet
pub record IsApart (m : ℕ) : Type 0 where
  pub low : m < 128
  pub percent : (37 == m) ≡ false
  pub hex : (n : ℕ) → (capital_hex n == m) ≡ false

pub slash_hex : (n : ℕ) → (capital_hex n == 47) ≡ false
slash_hex n = grind (arith, nat_tests)

colon_hex : (n : ℕ) → (capital_hex n == 58) ≡ false
colon_hex n = grind (arith, nat_tests)

pub slash-apart : IsApart 47
slash-apart = record { low = omega arith; percent = refl; hex = slash_hex }

pub colon-apart : IsApart 58
colon-apart = record { low = omega arith; percent = refl; hex = colon_hex }

pub high_apart : (x m : ℕ) → nat_lt x 128 ≡ false → m < 128 → (x == m) ≡ false
high_apart x m h l = grind (arith, nat_tests)

triplet-lacks : (m x : ℕ) (ys : List ℕ) → IsApart m → lacks m (triplet x ++ ys) ≡ lacks m ys
triplet-lacks m x ys a = rw (a.percent, a.hex (x / 16), a.hex (x % 16)) refl

pub mapped-lacks : (m : ℕ) (xs : List ℕ) → IsApart m → lacks m (mapped xs) ≡ lacks m xs
mapped-lacks m [] a = refl
mapped-lacks m (x ∷ xs) a =
    elim (nat_lt x 128) as (λ b. nat_lt x 128 ≡ b → lacks m (mapped (x ∷ xs)) ≡ lacks m (x ∷ xs)) [
      | true ↦ λ e. ap (lacks m) (mapped-low x xs e) ∙ ap (λ b. not (x == m) && b) (mapped-lacks m xs a)
      | false ↦ λ e. ap (lacks m) (mapped-high x xs e) ∙ triplet-lacks m x (mapped xs) a ∙ mapped-lacks m xs a
          ∙ ap (λ b. not b && lacks m xs) (sym (high_apart x m e a.low))
    ] refl

triplet-before : (m x : ℕ) (ys : List ℕ) → IsApart m → before m (triplet x ++ ys) ≡ triplet x ++ before m ys
triplet-before m x ys a = rw (a.percent, a.hex (x / 16), a.hex (x % 16)) refl

pub mapped-before : (m : ℕ) (xs : List ℕ) → IsApart m → before m (mapped xs) ≡ mapped (before m xs)
mapped-before m [] a = refl
mapped-before m (x ∷ xs) a =
    elim (nat_lt x 128) as (λ b. nat_lt x 128 ≡ b → before m (mapped (x ∷ xs)) ≡ mapped (before m (x ∷ xs))) [
      | true ↦ λ e. ap (before m) (mapped-low x xs e)
          ∙ (elim (x == m) as (λ b. cond b [] (x ∷ before m (mapped xs)) ≡ mapped (cond b [] (x ∷ before m xs))) [
            | true ↦ refl
            | false ↦ ap (λ z. x ∷ z) (mapped-before m xs a) ∙ sym (mapped-low x (before m xs) e)
          ])
      | false ↦ λ e.
          ap (before m) (mapped-high x xs e) ∙ triplet-before m x (mapped xs) a ∙ ap (λ z. triplet x ++ z) (mapped-before m xs a)
          ∙ sym (mapped-high x (before m xs) e)
          ∙ ap (λ b. mapped (cond b [] (x ∷ before m xs))) (sym (high_apart x m e a.low))
    ] refl

-- ---- slashes
pub mapped-empty : (xs : List ℕ) → is_empty (mapped xs) ≡ is_empty xs
mapped-empty [] = refl
mapped-empty (x ∷ xs) = elim (nat_lt x 128) as (λ b. is_empty (cond b (x ∷ []) (triplet x) ++ mapped xs) ≡ false) [
  | true ↦ refl
  | false ↦ refl
]

pub mapped-slash : (xs : List ℕ) → starts_with_slash (mapped xs) ≡ starts_with_slash xs
mapped-slash [] = refl
mapped-slash (x ∷ xs) = elim (nat_lt x 128) as (λ b. nat_lt x 128 ≡ b
    → starts_with_slash (cond b (x ∷ []) (triplet x) ++ mapped xs) ≡ (x == 47)) [
      | true ↦ λ _. refl
      | false ↦ λ e. sym (high_apart x 47 e (omega arith))
    ] refl

pub mapped-slashes : (xs : List ℕ) → starts_with_slashes (mapped xs) ≡ starts_with_slashes xs
mapped-slashes [] = refl
mapped-slashes (x ∷ xs) =
    elim (nat_lt x 128) as (λ b. nat_lt x 128 ≡ b → starts_with_slashes (cond b (x ∷ []) (triplet x) ++ mapped xs)
    ≡ ((x == 47) && starts_with_slash xs)) [
      | true ↦ λ _. ap (λ b. (x == 47) && b) (mapped-slash xs)
      | false ↦ λ e. ap (λ b. b && starts_with_slash xs) (sym (high_apart x 47 e (omega arith)))
    ] refl
