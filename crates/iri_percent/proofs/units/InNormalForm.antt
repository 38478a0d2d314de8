-- The units of a triplet normal form, character by character.
use Rattle.iri_percent.proofs.Common.{◌≡◌, ℕ, true, false, cond, List, [], ◌∷◌, ◌++◌, None, refl, sym, ◌∙◌, ap, subst, ◌==◌, map}
use Rattle.iri_percent.proofs.Common.{is_ascii_hexdigit, to_ascii_uppercase, chars, IsUtf8, encode, encodes, scalar, scalars, encodes-chars}
use Rattle.iri_percent.proofs.Common.{scalars-chars, map-id, Tests, IsSpec, unreserved, both, Plain, Char, Lone, octets, first_char, units}
use Rattle.iri_percent.proofs.Common.{two_digits, whole_triplets, char_units, read_from, pct, as_it_is, normal_unit, flat_map}
use Rattle.iri_percent.specs.Triplets.{unit_in_form}
use Rattle.iri_percent.proofs.units.AtStart.{Spells, encodes_triplet, units_lone}
use Rattle.iri_percent.proofs.forms.ByUnits.{normal_nil, normal_plains, normal_lone, normal_char}
use Rattle.iri_percent.proofs.units.WholeTriplets.{whole_triplet, whole_after}
use Rattle.iri_percent.proofs.forms.Stability.{as_it_is-case, upper_spells, unreserved_percent, encode_percent, whole_plains, units-normal}
use Rattle.iri_percent.proofs.units.Readings.{TextReading, nothing, other, spelled_char, lone_triplet, stray_percent, read_text}
use Rattle.iri_percent.proofs.units.ByCharacters.{percent_unit, char_units_char, char_units_plain, suffix, two_encoded}
use Rattle.iri_percent.proofs.units.ByCharacters.{encodes_spelled, encodes_percent, octets_encoded}

abbrev IsFormed : Tests → List ℕ → Type 0
IsFormed s t = char_units (pct s t) ≡ map (unit_in_form s) (char_units t)

plain_formed : (s : Tests) (c : ℕ) (xs : List ℕ) → scalar c ≡ true → (c == 37) ≡ false → IsFormed s xs → IsFormed s (encode c ++ xs)
plain_formed s c xs h e k =
    ap char_units (normal_plains s as_it_is (encode c) xs (encode_percent c e) ∙ ap (λ l. l ++ pct s xs) (map-id (encode c)))
    ∙ char_units_plain c (pct s xs) h e
    ∙ ap (λ us. Plain c ∷ us) k
    ∙ sym (ap (map (unit_in_form s)) (char_units_plain c xs h e))

char_formed : (s : Tests) (c : ℕ) (sp xs : List ℕ) → IsSpec s → scalar c ≡ true → Spells sp (encode c) → IsFormed s xs
    → IsFormed s (sp ++ xs)
char_formed s c sp xs i h sps k =
    ap char_units (normal_char s as_it_is c sp xs h sps) ∙ at
    ∙ sym (ap (map (unit_in_form s)) (char_units_char c sp (encode c) xs h sps refl))
  where
    at : char_units (cond (unreserved s c) (map as_it_is (encode c)) (map to_ascii_uppercase sp) ++ pct s xs)
        ≡ unit_in_form s (Char c sp) ∷ map (unit_in_form s) (char_units xs)
    at =
        elim (unreserved s c) as (λ b. unreserved s c ≡ b
        → char_units (cond b (map as_it_is (encode c)) (map to_ascii_uppercase sp) ++ pct s xs)
        ≡ cond b (Plain c) (Char c (map to_ascii_uppercase sp)) ∷ map (unit_in_form s) (char_units xs)) [
          | true ↦ λ u. ap (λ l. char_units (l ++ pct s xs)) (map-id (encode c))
              ∙ char_units_plain c (pct s xs) h (unreserved_percent s c i u) ∙ ap (λ us. Plain c ∷ us) k
          | false ↦ λ _. char_units_char c (map to_ascii_uppercase sp) (encode c) (pct s xs) h (upper_spells sp (encode c) sps) refl
              ∙ ap (λ us. Char c (map to_ascii_uppercase sp) ∷ us) k
        ] refl

lone_formed : (s : Tests) (a b : ℕ) (xs : List ℕ) → IsSpec s → is_ascii_hexdigit a ≡ true → is_ascii_hexdigit b ≡ true
    → first_char (octets (37 ∷ a ∷ b ∷ xs)) ≡ None → whole_triplets xs ≡ true → IsFormed s xs → IsFormed s (37 ∷ a ∷ b ∷ xs)
lone_formed s a b xs i p q n w k =
    let A = to_ascii_uppercase a in
    let B = to_ascii_uppercase b in
    let written : pct s (37 ∷ a ∷ b ∷ xs) ≡ 37 ∷ A ∷ B ∷ pct s xs = normal_lone s as_it_is a b xs p q n in
    let bytes : units (37 ∷ A ∷ B ∷ pct s xs) ≡ Lone A B ∷ flat_map (normal_unit s as_it_is) (units xs) =
    sym (ap units written) ∙ units-normal s as_it_is (37 ∷ a ∷ b ∷ xs) i as_it_is-case (whole_triplet a b xs p q ∙ w)
    ∙ ap (flat_map (normal_unit s as_it_is)) (units_lone a b xs p q n) in
    ap char_units written
    ∙ percent_unit (A ∷ B ∷ []) (pct s xs) (Lone A B) (flat_map (normal_unit s as_it_is) (units xs)) bytes refl
    ∙ ap (λ us. Lone A B ∷ us) k
    ∙ sym (ap (map (unit_in_form s)) (percent_unit (a ∷ b ∷ []) xs (Lone a b) (units xs) (units_lone a b xs p q n) refl))

nothing_formed : (s : Tests) → char_units [] ≡ map (unit_in_form s) (char_units [])
unfolding read_from
nothing_formed s = refl

encoded_formed : (s : Tests) (cs : List ℕ) → IsSpec s → TextReading cs → scalars cs ≡ true → whole_triplets (encodes cs) ≡ true → IsFormed s (encodes cs)
unfolding whole_triplets
encoded_formed s cs i nothing v w = ap char_units (normal_nil s as_it_is) ∙ nothing_formed s
encoded_formed s cs i (other c cs' e r) v w =
    let k = both (scalar c) (scalars cs') v in
    plain_formed s c (encodes cs') k.0 e (encoded_formed s cs' i r k.1 (sym (whole_plains (encode c) (encodes cs') (encode_percent c e)) ∙ w))
encoded_formed s cs i (spelled_char c sp cs' h k r) v w =
    let same = encodes_spelled sp (encode c) cs' k in
    subst (IsFormed s) (sym same) (char_formed s c sp (encodes cs') i h k
    (encoded_formed s cs' i r (suffix sp cs' v) (sym (ap whole_triplets same ∙ whole_after sp (encode c) (encodes cs') k) ∙ w)))
encoded_formed s cs i (lone_triplet a b cs' p q n r) v w =
    let same = encodes_triplet a b cs' p q in
    let rest : whole_triplets (encodes cs') ≡ true = sym (ap whole_triplets same ∙ whole_triplet a b (encodes cs') p q) ∙ w in
    let none : first_char (octets (37 ∷ a ∷ b ∷ encodes cs')) ≡ None =
    ap first_char (ap octets (sym same) ∙ octets_encoded (37 ∷ a ∷ b ∷ cs') (lone_triplet a b cs' p q n r) v) ∙ n in
    subst (IsFormed s) (sym same) (lone_formed s a b (encodes cs') i p q none rest (encoded_formed s cs' i r (suffix (37 ∷ a ∷ b ∷ []) cs' v) rest))
encoded_formed s cs i (stray_percent cs' e r) v w =
    let k = both (two_digits (encodes cs')) (whole_triplets (encodes cs')) (sym (ap whole_triplets (encodes_percent cs')) ∙ w) in
    let no : false ≡ true = sym (two_encoded cs' (suffix (37 ∷ []) cs' v) ∙ e) ∙ k.0 in
    cc

pub units-formed : (s : Tests) (t : List ℕ) → IsSpec s → IsUtf8 t → whole_triplets t ≡ true
    → char_units (pct s t) ≡ map (unit_in_form s) (char_units t)
units-formed s t i u w =
    let same = encodes-chars t u in
    subst (IsFormed s) same (encoded_formed s (chars t) i (read_text (chars t)) (scalars-chars t u) (ap whole_triplets same ∙ w))

pub units-pct : (s : Tests) (t : List ℕ) → IsSpec s → whole_triplets t ≡ true → units (pct s t) ≡ flat_map (normal_unit s as_it_is) (units t)
units-pct s t i w = units-normal s as_it_is t i as_it_is-case w

-- what the law of units in normal form says
pub ruleset formed_units = (units-formed, units-pct)
