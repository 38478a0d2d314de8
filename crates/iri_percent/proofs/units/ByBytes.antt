-- The units of a text, character by character and byte by byte.
use Rattle.iri_percent.proofs.Common.{◌≡◌, ℕ, zero, suc, ◌-◌, true, false, cond, ◌&&◌, List, [], ◌∷◌, ◌++◌, Option, Some, None, length}
use Rattle.iri_percent.proofs.Common.{drop, refl, sym, ◌∙◌, ap, subst, arith, append-nil, eqb-true, ◌==◌, map, flat_map, is_ascii_hexdigit}
use Rattle.iri_percent.proofs.Common.{to_ascii_uppercase, encode_utf8, drop_at, Tests, unreserved, TextUnit, Plain, Char, Lone, Stray}
use Rattle.iri_percent.proofs.Common.{IllFormed, octets, first_char, triplet_unit, first_unit, unit_text, read_from, units, by_character}
use Rattle.iri_percent.proofs.Common.{char_unit_text, char_units, plains, byte_units, normal, written, all-lacks}
use Rattle.iri_percent.proofs.Common.{flat_map-append}
use Rattle.iri_percent.specs.CharUnits.{first_char_unit}
use Rattle.iri_percent.specs.Triplets.{unit_form}
use Rattle.iri_percent.proofs.units.AtStart.{BeginsChar, first_char_is, is_continuation, encode_bytes, read_from_drop, byte_other, units_plain}
use Rattle.iri_percent.proofs.units.AtStart.{units_plains}

-- a unit that is the same in both readings
pub record IsSame (u : TextUnit) (o : Option ℕ) : Type 0 where
  pub unit : by_character u o ≡ u
  pub text : char_unit_text u ≡ unit_text u
  pub bytes : byte_units u ≡ u ∷ []

triplet_same : (a b : ℕ) (t : List ℕ) (d o : Option ℕ) → IsSame (triplet_unit a b t d) o
triplet_same a b t None o = record { unit = refl; text = refl; bytes = refl }
triplet_same a b t (Some c) o = record { unit = refl; text = refl; bytes = refl }

pub percent_same : (xs : List ℕ) (o : Option ℕ) → IsSame (first_unit 37 xs) o
percent_same [] o = record { unit = refl; text = refl; bytes = refl }
percent_same (a ∷ []) o = record { unit = refl; text = refl; bytes = refl }
percent_same (a ∷ b ∷ xs) o =
    elim (is_ascii_hexdigit a && is_ascii_hexdigit b) as (λ v. IsSame
    (cond v (triplet_unit a b (37 ∷ a ∷ b ∷ xs) (first_char (octets (37 ∷ a ∷ b ∷ xs)))) Stray) o) [
      | true ↦ triplet_same a b (37 ∷ a ∷ b ∷ xs) (first_char (octets (37 ∷ a ∷ b ∷ xs))) o
      | false ↦ record { unit = refl; text = refl; bytes = refl }
    ]

-- both readings of what stands after so many bytes
abbrev by_chars : ℕ → List ℕ → List TextUnit
by_chars n t = flat_map byte_units (read_from first_char_unit char_unit_text n t)

abbrev IsTied : List ℕ → Type 0
IsTied t = (n : ℕ) → read_from first_unit unit_text n t ≡ by_chars n t

percent_tied : (xs : List ℕ) → IsTied xs → units (37 ∷ xs) ≡ by_chars 0 (37 ∷ xs)
unfolding read_from
percent_tied xs tied =
    let k = percent_same xs (first_char (37 ∷ xs)) in
    ap (λ l. first_unit 37 xs ∷ l) (tied (length (unit_text (first_unit 37 xs)) - 1))
    ∙ sym (ap (λ l. l ++ by_chars (length (unit_text (first_unit 37 xs)) - 1) xs) k.bytes)
    ∙ sym (ap (λ l. byte_units (first_unit 37 xs) ++ by_chars (length l - 1) xs) k.text)
    ∙ sym (ap (λ u. byte_units u ++ by_chars (length (char_unit_text u) - 1) xs) k.unit)

character_tied : (x c : ℕ) (xs : List ℕ) → IsTied xs → BeginsChar (x ∷ xs) c
    → Plain x ∷ units xs ≡ plains (encode_utf8 c) ++ by_chars (length (encode_utf8 c) - 1) xs
character_tied x c xs tied g =
    let b = encode_bytes c in
    let whole : x ∷ xs ≡ b.lead ∷ (b.tail ++ g.rest) = g.split ∙ ap (λ l. l ++ g.rest) b.split in
    let first : x ≡ b.lead = cc in
    let after : xs ≡ b.tail ++ g.rest = cc in
    let less : length (b.lead ∷ b.tail) - 1 ≡ length b.tail = omega arith in
    let rest : units g.rest ≡ read_from first_unit unit_text (length b.tail) xs =
    sym (read_from_drop first_unit unit_text (length b.tail) xs ∙ ap units
    (ap (drop (length b.tail)) after ∙ drop_at b.tail g.rest (length b.tail) refl)) in
    subst (λ l. Plain x ∷ units xs ≡ plains l ++ by_chars (length l - 1) xs) (sym b.split)
    (ap (λ y. Plain y ∷ units xs) first
    ∙ ap (λ us. Plain b.lead ∷ us) (ap units after ∙ units_plains b.tail g.rest (all-lacks is_continuation 37 b.tail refl b.continue)
    ∙ ap (λ us. plains b.tail ++ us) (rest ∙ tied (length b.tail)))
    ∙ sym (ap (λ n. Plain b.lead ∷ (plains b.tail ++ by_chars n xs)) less))

other_tied : (x : ℕ) (xs : List ℕ) → (x == 37) ≡ false → IsTied xs → units (x ∷ xs) ≡ by_chars 0 (x ∷ xs)
unfolding read_from
other_tied x xs h tied =
    units_plain x xs h ∙ elim (first_char (x ∷ xs)) as (λ o. first_char (x ∷ xs) ≡ o
    → Plain x ∷ units xs ≡ byte_units (by_character (Plain x) o) ++ by_chars (length (char_unit_text (by_character (Plain x) o)) - 1) xs) [
      | None ↦ λ _. ap (λ us. Plain x ∷ us) (tied 0)
      | Some c ↦ λ e. character_tied x c xs tied (first_char_is (x ∷ xs) c e)
    ] refl
    ∙ sym (ap (λ u. byte_units (by_character u (first_char (x ∷ xs)))
    ++ by_chars (length (char_unit_text (by_character u (first_char (x ∷ xs)))) - 1) xs) (byte_other x xs h))

units_tied : (n : ℕ) (t : List ℕ) → read_from first_unit unit_text n t ≡ by_chars n t
unfolding read_from
units_tied zero [] = refl
units_tied (suc n) [] = refl
units_tied (suc n) (x ∷ xs) = units_tied n xs
units_tied zero (x ∷ xs) =
    elim (x == 37) as (λ b. (x == 37) ≡ b → units (x ∷ xs) ≡ by_chars 0 (x ∷ xs)) [
      | true ↦ λ e. subst (λ y. units (y ∷ xs) ≡ by_chars 0 (y ∷ xs)) (sym (eqb-true x 37 e)) (percent_tied xs (λ n. units_tied n xs))
      | false ↦ λ e. other_tied x xs e (λ n. units_tied n xs)
    ] refl

-- the units of bytes are those of characters, with a unit for each byte of a character outside triplets
pub units-by_chars : (t : List ℕ) → units t ≡ flat_map byte_units (char_units t)
units-by_chars t = units_tied 0 t

-- ---- triplet normal form
pub written_plains : (s : Tests) (f : ℕ → ℕ) (xs : List ℕ) → flat_map (written s f) (plains xs) ≡ map f xs
written_plains s f [] = refl
written_plains s f (x ∷ xs) = ap (λ l. f x ∷ l) (written_plains s f xs)

unit_written : (s : Tests) (f : ℕ → ℕ) (u : TextUnit) → flat_map (written s f) (byte_units u) ≡ unit_form s f u
unit_written s f (Plain c) = written_plains s f (encode_utf8 c)
unit_written s f (Char c sp) = append-nil (cond (unreserved s c) (map f (encode_utf8 c)) (map to_ascii_uppercase sp))
unit_written s f (Lone a b) = refl
unit_written s f Stray = refl
unit_written s f (IllFormed b) = refl

units_written : (s : Tests) (f : ℕ → ℕ) (us : List TextUnit) → flat_map (written s f) (flat_map byte_units us) ≡ flat_map (unit_form s f) us
units_written s f [] = refl
units_written s f (u ∷ us) =
    flat_map-append (written s f) (byte_units u) (flat_map byte_units us)
    ∙ ap (λ l. l ++ flat_map (written s f) (flat_map byte_units us)) (unit_written s f u)
    ∙ ap (λ l. unit_form s f u ++ l) (units_written s f us)

-- the normal form, byte by byte
pub normal-by_bytes : (s : Tests) (f : ℕ → ℕ) (t : List ℕ) → normal s f t ≡ flat_map (written s f) (units t)
unfolding normal
normal-by_bytes s f t = sym (ap (flat_map (written s f)) (units-by_chars t) ∙ units_written s f (char_units t))
