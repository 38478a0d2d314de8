-- The units of a text, put together, are the text.
use Rattle.iri_percent.proofs.Common.{◌≡◌, ℕ, zero, suc, ◌*◌, ◌<◌, true, false, cond, ◌&&◌, List, [], ◌∷◌, ◌++◌, Option, Some, None, length}
use Rattle.iri_percent.proofs.Common.{take, drop, refl, sym, ◌∙◌, ap, subst, arith, take-append-drop, eqb-true, ◌==◌, is_ascii_hexdigit}
use Rattle.iri_percent.proofs.Common.{len_utf8, len_utf8_bounds, both, TextUnit, Plain, Stray, is_triplet, octets, first_char, triplet_unit}
use Rattle.iri_percent.proofs.Common.{byte_unit, first_unit, unit_text, read_from, units, flat_map}
use Rattle.iri_percent.proofs.units.AtStart.{units_plain, units_char, units_lone, units_stray}
use Rattle.iri_percent.proofs.units.Readings.{TextReading, nothing, other, spelled_char, lone_triplet, stray_percent, read_text}

-- a unit that is a prefix of the text, and isn't empty
pub record IsUnitPrefix (u : TextUnit) (t : List ℕ) : Type 0 where
  pub rest : List ℕ
  pub split : t ≡ unit_text u ++ rest
  pub some : 0 < length (unit_text u)

prefix_byte : (x : ℕ) (xs : List ℕ) → IsUnitPrefix (byte_unit x) (x ∷ xs)
prefix_byte x xs =
    elim (x == 37) as (λ b. (x == 37) ≡ b → IsUnitPrefix (cond b Stray (Plain x)) (x ∷ xs)) [
      | true ↦ λ e. record { rest = xs; split = ap (λ y. y ∷ xs) (eqb-true x 37 e); some = omega arith }
      | false ↦ λ _. record { rest = xs; split = refl; some = omega arith }
    ] refl

some_taken : (n x : ℕ) (xs : List ℕ) → 0 < n → 0 < length (take n (x ∷ xs))
some_taken zero x xs h = absurd (omega arith)
some_taken (suc n) x xs h = omega arith

prefix_triplet : (a b : ℕ) (xs : List ℕ) (o : Option ℕ) → IsUnitPrefix (triplet_unit a b (37 ∷ a ∷ b ∷ xs) o) (37 ∷ a ∷ b ∷ xs)
prefix_triplet a b xs None = record { rest = xs; split = refl; some = omega arith }
prefix_triplet a b xs (Some c) = record {
  rest = drop (3 * len_utf8 c) (37 ∷ a ∷ b ∷ xs);
  split = sym (take-append-drop (3 * len_utf8 c) (37 ∷ a ∷ b ∷ xs));
  some = some_taken (3 * len_utf8 c) 37 (a ∷ b ∷ xs) (omega (arith, len_utf8_bounds c));
}

pub unit_prefix : (x : ℕ) (xs : List ℕ) → IsUnitPrefix (first_unit x xs) (x ∷ xs)
unit_prefix x [] = prefix_byte x []
unit_prefix x (a ∷ []) = prefix_byte x (a ∷ [])
unit_prefix x (a ∷ b ∷ xs) =
    elim (is_triplet x a b) as (λ v. is_triplet x a b ≡ v
    → IsUnitPrefix (cond v (triplet_unit a b (x ∷ a ∷ b ∷ xs) (first_char (octets (x ∷ a ∷ b ∷ xs)))) (byte_unit x)) (x ∷ a ∷ b ∷ xs)) [
      | true ↦ λ e.
          let same : 37 ≡ x = sym (eqb-true x 37 (both (x == 37) (is_ascii_hexdigit a && is_ascii_hexdigit b) e).0) in
          subst (λ y. IsUnitPrefix (triplet_unit a b (y ∷ a ∷ b ∷ xs) (first_char (octets (x ∷ a ∷ b ∷ xs)))) (y ∷ a ∷ b ∷ xs)) same
          (prefix_triplet a b xs (first_char (octets (x ∷ a ∷ b ∷ xs))))
      | false ↦ λ _. prefix_byte x (a ∷ b ∷ xs)
    ] refl

joined : (t : List ℕ) → TextReading t → flat_map unit_text (units t) ≡ t
unfolding read_from
joined _ nothing = refl
joined _ (other x xs e r) = ap (flat_map unit_text) (units_plain x xs e) ∙ ap (λ l. x ∷ l) (joined xs r)
joined _ (spelled_char c sp xs h k r) = ap (flat_map unit_text) (units_char c sp xs h k) ∙ ap (λ l. sp ++ l) (joined xs r)
joined _ (lone_triplet a b xs p q n r) = ap (flat_map unit_text) (units_lone a b xs p q n) ∙ ap (λ l. 37 ∷ a ∷ b ∷ l) (joined xs r)
joined _ (stray_percent xs e r) = ap (flat_map unit_text) (units_stray xs e) ∙ ap (λ l. 37 ∷ l) (joined xs r)

pub units-text : (t : List ℕ) → flat_map unit_text (units t) ≡ t
units-text t = joined t (read_text t)
