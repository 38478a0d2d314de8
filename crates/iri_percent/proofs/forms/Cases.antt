-- Characters in another case, and characters that are decoded.
use Rattle.iri_percent.proofs.Common.{◌≡◌, ℕ, suc, ◌<◌, ◌≤◌, true, false, List, [], ◌∷◌, Some, length, get_or, refl, sym, ◌∙◌}
use Rattle.iri_percent.proofs.Common.{ap, arith, append-nil, ltb-true, ltb-false, map, encode_utf8, ltb, scalar, low_scalar}
use Rattle.iri_percent.proofs.Common.{encode_ascii, Tests, unreserved, first_char, decoded}
use Rattle.std.proofs.lemmas.Str.{inside_one}
use Rattle.iri_percent.proofs.units.AtStart.{BeginsChar, first_char_is}
use Rattle.iri_percent.proofs.forms.Stability.{IsCase}
use Rattle.iri_percent.proofs.characters.Spellings.{only_unreserved}

map_high : (f : ℕ → ℕ) (xs : List ℕ) → ((x : ℕ) → 128 ≤ x → f x ≡ x) → ((k : ℕ) → k < length xs → 128 ≤ get_or xs k 0) → map f xs ≡ xs
map_high f [] h p = refl
map_high f (x ∷ xs) h p = ap (λ y. y ∷ map f xs) (h x (p 0 (omega arith)))
    ∙ ap (λ l. x ∷ l) (map_high f xs h (λ k j. p (suc k) (omega arith)))

-- the bytes of a character in another case
pub encode_case : (f : ℕ → ℕ) (c : ℕ) → IsCase f → map f (encode_utf8 c) ≡ encode_utf8 (f c)
encode_case f c i =
    elim (ltb c 128) as (λ b. ltb c 128 ≡ b → map f (encode_utf8 c) ≡ encode_utf8 (f c)) [
      | true ↦ λ e. let low : c < 128 = ltb-true c 128 e in ap (map f) (encode_ascii c low) ∙ sym (encode_ascii (f c) (i.below c low))
      | false ↦ λ e. let past : 128 ≤ c = ltb-false c 128 e in
          map_high f (encode_utf8 c) i.past (λ k j. high past k j) ∙ ap encode_utf8 (sym (i.past c past))
    ] refl
  where
    high : 128 ≤ c → (k : ℕ) → k < length (encode_utf8 c) → 128 ≤ get_or (encode_utf8 c) k 0
    high past k j =
        elim (ltb (get_or (encode_utf8 c) k 0) 128) as (λ b. ltb (get_or (encode_utf8 c) k 0) 128 ≡ b → 128 ≤ get_or (encode_utf8 c) k 0) [
          | true ↦ λ e. let low : get_or (encode_utf8 c) k 0 < 128 = ltb-true (get_or (encode_utf8 c) k 0) 128 e in
              absurd (omega (arith, low, past, inside_one c [] (encode_utf8 c) k (sym (append-nil (encode_utf8 c))) j low))
          | false ↦ λ e. ltb-false (get_or (encode_utf8 c) k 0) 128 e
        ] refl

pub is_decoded : (s : Tests) (os : List ℕ) (c : ℕ) → decoded s os ≡ Some c → (BeginsChar os c) × (unreserved s c ≡ true)
is_decoded s os c h = let k = only_unreserved s (first_char os) c h in (first_char_is os c k.0, k.1)

pub case_scalar : (f : ℕ → ℕ) (c : ℕ) → IsCase f → scalar c ≡ true → scalar (f c) ≡ true
case_scalar f c i h =
    elim (ltb c 128) as (λ b. ltb c 128 ≡ b → scalar (f c) ≡ true) [
      | true ↦ λ e. let low : f c < 128 = i.below c (ltb-true c 128 e) in low_scalar (f c) (omega arith)
      | false ↦ λ e. ap scalar (i.past c (ltb-false c 128 e)) ∙ h
    ] refl
