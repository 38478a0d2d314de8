-- The units of a text, character by character and byte by byte.
use Rattle.iri_percent.proofs.Common.{◌≡◌, ℕ, ◌≤◌, true, false, ◌&&◌, List, [], ◌∷◌, ◌++◌, Some, length}
use Rattle.iri_percent.proofs.Common.{refl, sym, ◌∙◌, ap, subst, arith, ltb-true, ltb-false, ◌==◌, nat_lt}
use Rattle.iri_percent.proofs.Common.{flat_map, list_all, is_ascii_hexdigit, chars, IsUtf8, encode, encodes, scalar, scalars}
use Rattle.iri_percent.proofs.Common.{encode_ascii, encodes-chars, scalars-chars, nat_tests, both, TextUnit, Plain, Char, Lone, Stray}
use Rattle.iri_percent.proofs.Common.{IllFormed, octet, octets, first_char, first_unit, unit_text, read_from, units}
use Rattle.iri_percent.proofs.Common.{two_digits, by_character, char_unit_text, char_units, plains, byte_units}
use Rattle.iri_percent.proofs.units.AtStart.{Spells, none, more, octets_other, octets_triplet, octets_spelled, char_first}
use Rattle.iri_percent.proofs.units.AtStart.{encode_bytes, encodes_triplet, read_unit, byte_other, units_plain, units_lone, units_char}
use Rattle.iri_percent.proofs.units.ByBytes.{percent_same, units-by_chars, normal-by_bytes}
use Rattle.iri_percent.proofs.units.Readings.{TextReading, nothing, other, spelled_char, lone_triplet, stray_percent, read_text}
use Rattle.iri_percent.proofs.mapping.Texts.{is_high, encode-high}
use Rattle.iri_percent.proofs.units.Joined.{units-text}
pub use Rattle.iri_percent.proofs.units.AtStart.{units_stray}
use Rattle.iri_percent.specs.CharUnits.{first_char_unit}
use Rattle.std.proofs.Common.{◌⊎◌, inl, inr}
use Rattle.iri_grammar.proofs.units.FirstUnits.{past_hex as high_no_hex}

-- ---- digits after a `%`
pub no_two : (x : ℕ) (xs : List ℕ) → is_ascii_hexdigit x ≡ false → two_digits (x ∷ xs) ≡ false
no_two x [] h = refl
no_two x (y ∷ xs) h = rw h refl

high_past : (x : ℕ) → is_high x ≡ true → 128 ≤ x
high_past x h = grind (arith, nat_tests)

-- how a character is encoded: as it stands, or by bytes that all are past ASCII
record IsPastAscii (c : ℕ) : Type 0 where
  lead : ℕ
  tail : List ℕ
  split : encode c ≡ lead ∷ tail
  digit : is_ascii_hexdigit lead ≡ false
  itself : is_ascii_hexdigit c ≡ false

past_ascii : (c : ℕ) → scalar c ≡ true → nat_lt c 128 ≡ false → IsPastAscii c
past_ascii c h e =
    let b = encode_bytes c in
    let all : list_all is_high (b.lead ∷ b.tail) ≡ true = ap (list_all is_high) (sym b.split) ∙ encode-high c h e in
    record {
      lead = b.lead;
      tail = b.tail;
      split = b.split;
      digit = high_no_hex b.lead (high_past b.lead (both (is_high b.lead) (list_all is_high b.tail) all).0);
      itself =
          high_no_hex c (ltb-false c 128 e);
    }

two_second : (c d : ℕ) (ds : List ℕ) → scalar d ≡ true
    → two_digits (c ∷ (encode d ++ encodes ds)) ≡ (is_ascii_hexdigit c && is_ascii_hexdigit d)
two_second c d ds h =
    elim (nat_lt d 128) as (λ v. nat_lt d 128 ≡ v → two_digits (c ∷ (encode d ++ encodes ds))
    ≡ (is_ascii_hexdigit c && is_ascii_hexdigit d)) [
      | true ↦ λ e. ap (λ l. two_digits (c ∷ (l ++ encodes ds))) (encode_ascii d (ltb-true d 128 e))
      | false ↦ λ e.
          let p = past_ascii d h e in
          ap (λ l. two_digits (c ∷ (l ++ encodes ds))) p.split ∙ ap (λ v. is_ascii_hexdigit c && v) (p.digit ∙ sym p.itself)
    ] refl

pub two_encoded : (cs : List ℕ) → scalars cs ≡ true → two_digits (encodes cs) ≡ two_digits cs
two_encoded [] h = refl
two_encoded (c ∷ cs) h =
    let k = both (scalar c) (scalars cs) h in
    elim (nat_lt c 128) as (λ v. nat_lt c 128 ≡ v → two_digits (encode c ++ encodes cs) ≡ two_digits (c ∷ cs)) [
      | true ↦ λ e. ap (λ l. two_digits (l ++ encodes cs)) (encode_ascii c (ltb-true c 128 e)) ∙ rest c cs k.1
      | false ↦ λ e.
          let p = past_ascii c k.0 e in
          ap (λ l. two_digits (l ++ encodes cs)) p.split ∙ no_two p.lead (p.tail ++ encodes cs) p.digit ∙ sym (no_two c cs p.itself)
    ] refl
  where
    rest : (c : ℕ) (cs : List ℕ) → scalars cs ≡ true → two_digits (c ∷ encodes cs) ≡ two_digits (c ∷ cs)
    rest c [] h = refl
    rest c (d ∷ ds) h = two_second c d ds (both (scalar d) (scalars ds) h).0

pub suffix : (xs ys : List ℕ) → scalars (xs ++ ys) ≡ true → scalars ys ≡ true
suffix [] ys h = h
suffix (x ∷ xs) ys h = suffix xs ys (both (scalar x) (scalars (xs ++ ys)) h).1

-- ---- octets
pub encodes_percent : (cs : List ℕ) → encodes (37 ∷ cs) ≡ 37 ∷ encodes cs
encodes_percent cs = ap (λ l. l ++ encodes cs) (encode_ascii 37 (omega arith))

pub encodes_spelled : (sp os cs : List ℕ) → Spells sp os → encodes (sp ++ cs) ≡ sp ++ encodes cs
encodes_spelled sp os cs none = refl
encodes_spelled sp os cs (more a b sp' os' p q k) =
    encodes_triplet a b (sp' ++ cs) p q ∙ ap (λ l. 37 ∷ a ∷ b ∷ l) (encodes_spelled sp' os' cs k)

octets_stray : (xs : List ℕ) → two_digits xs ≡ false → octets (37 ∷ xs) ≡ []
octets_stray [] h = refl
octets_stray (a ∷ []) h = refl
octets_stray (a ∷ b ∷ xs) h = rw h refl

pub octets_encoded : (cs : List ℕ) → TextReading cs → scalars cs ≡ true → octets (encodes cs) ≡ octets cs
octets_encoded cs nothing w = refl
octets_encoded cs (other c cs' e r) w =
    let b = encode_bytes c in
    ap (λ l. octets (l ++ encodes cs')) b.split ∙ octets_other b.lead (b.tail ++ encodes cs') (b.percent ∙ e) ∙ sym (octets_other c cs' e)
octets_encoded cs (spelled_char c sp cs' h k r) w =
    ap octets (encodes_spelled sp (encode c) cs' k) ∙ octets_spelled sp (encode c) (encodes cs') k
    ∙ ap (λ l. encode c ++ l) (octets_encoded cs' r (suffix sp cs' w)) ∙ sym (octets_spelled sp (encode c) cs' k)
octets_encoded cs (lone_triplet a b cs' p q n r) w =
    ap octets (encodes_triplet a b cs' p q) ∙ octets_triplet a b (encodes cs') p q ∙ ap (λ l. octet a b ∷ l) (octets_encoded cs' r (suffix (37 ∷ a ∷ b ∷ []) cs' w))
    ∙ sym (octets_triplet a b cs' p q)
octets_encoded cs (stray_percent cs' e r) w =
    ap octets (encodes_percent cs') ∙ octets_stray (encodes cs') (two_encoded cs' (suffix (37 ∷ []) cs' w) ∙ e) ∙ sym (octets_stray cs' e)

-- ---- units
-- a unit that begins with `%`
pub percent_unit : (sp xs : List ℕ) (u : TextUnit) (us : List TextUnit) → units (37 ∷ (sp ++ xs)) ≡ u ∷ us → unit_text u ≡ 37 ∷ sp
    → char_units (37 ∷ (sp ++ xs)) ≡ u ∷ char_units xs
unfolding read_from
percent_unit sp xs u us h e =
    let first : first_unit 37 (sp ++ xs) ≡ u = cc in
    let k = percent_same (sp ++ xs) (first_char (37 ∷ (sp ++ xs))) in
    let text : char_unit_text u ≡ 37 ∷ sp = ap char_unit_text (sym first) ∙ k.text ∙ ap unit_text first ∙ e in
    read_unit first_char_unit char_unit_text 37 sp xs u (k.unit ∙ first) (ap length text)

pub char_units_char : (c : ℕ) (sp os xs : List ℕ) → scalar c ≡ true → Spells sp os → os ≡ encode c
    → char_units (sp ++ xs) ≡ Char c sp ∷ char_units xs
char_units_char c sp os xs h none e = let b = encode_bytes c in let no : [] ≡ b.lead ∷ b.tail = e ∙ b.split in cc
char_units_char c sp os xs h (more a b sp' os' p q k) e =
    percent_unit (a ∷ b ∷ sp') xs (Char c (37 ∷ a ∷ b ∷ sp')) (units xs)
    (units_char c (37 ∷ a ∷ b ∷ sp') xs h (subst (λ l. Spells (37 ∷ a ∷ b ∷ sp') l) e (more a b sp' os' p q k))) refl

-- a character outside triplets
pub char_units_plain : (c : ℕ) (xs : List ℕ) → scalar c ≡ true → (c == 37) ≡ false → char_units (encode c ++ xs) ≡ Plain c ∷ char_units xs
char_units_plain c xs h n =
    let b = encode_bytes c in
    let whole : encode c ++ xs ≡ b.lead ∷ (b.tail ++ xs) = ap (λ l. l ++ xs) b.split in
    let first : first_char (b.lead ∷ (b.tail ++ xs)) ≡ Some c = ap first_char (sym whole) ∙ char_first c xs h in
    let unit : first_char_unit b.lead (b.tail ++ xs) ≡ Plain c =
    ap (λ u. by_character u (first_char (b.lead ∷ (b.tail ++ xs)))) (byte_other b.lead (b.tail ++ xs) (b.percent ∙ n))
    ∙ ap (λ o. by_character (Plain b.lead) o) first in
    ap char_units whole ∙ read_unit first_char_unit char_unit_text b.lead b.tail xs (Plain c) unit (ap length b.split)

-- the units of a list of characters, and those of its UTF-8
units_encoded : (cs : List ℕ) → TextReading cs → scalars cs ≡ true → char_units (encodes cs) ≡ units cs
unfolding read_from
units_encoded cs nothing w = refl
units_encoded cs (other c cs' e r) w =
    let k = both (scalar c) (scalars cs') w in
    char_units_plain c (encodes cs') k.0 e ∙ ap (λ l. Plain c ∷ l) (units_encoded cs' r k.1) ∙ sym (units_plain c cs' e)
units_encoded cs (spelled_char c sp cs' h k r) w =
    ap char_units (encodes_spelled sp (encode c) cs' k) ∙ char_units_char c sp (encode c) (encodes cs') h k refl
    ∙ ap (λ l. Char c sp ∷ l) (units_encoded cs' r (suffix sp cs' w)) ∙ sym (units_char c sp cs' h k)
units_encoded cs (lone_triplet a b cs' p q n r) w =
    let same : octets (37 ∷ a ∷ b ∷ encodes cs') ≡ octets (37 ∷ a ∷ b ∷ cs') =
    ap octets (sym (encodes_triplet a b cs' p q)) ∙ octets_encoded (37 ∷ a ∷ b ∷ cs') (lone_triplet a b cs' p q n r) w in
    ap char_units (encodes_triplet a b cs' p q) ∙ percent_unit (a ∷ b ∷ []) (encodes cs') (Lone a b) (units (encodes cs'))
    (units_lone a b (encodes cs') p q (ap first_char same ∙ n)) refl
    ∙ ap (λ l. Lone a b ∷ l) (units_encoded cs' r (suffix (37 ∷ a ∷ b ∷ []) cs' w)) ∙ sym (units_lone a b cs' p q n)
units_encoded cs (stray_percent cs' e r) w =
    let v = suffix (37 ∷ []) cs' w in
    let f = two_encoded cs' v ∙ e in
    ap char_units (encodes_percent cs') ∙ percent_unit [] (encodes cs') Stray (units (encodes cs')) (units_stray (encodes cs') f) refl
    ∙ ap (λ l. Stray ∷ l) (units_encoded cs' r v) ∙ sym (units_stray cs' e)

pub units-of_chars : (t : List ℕ) → IsUtf8 t → char_units t ≡ units (chars t)
units-of_chars t u = ap char_units (sym (encodes-chars t u)) ∙ units_encoded (chars t) (read_text (chars t)) (scalars-chars t u)

-- ---- the text of the units
plains_text : (os : List ℕ) (us : List TextUnit) → flat_map unit_text (plains os ++ us) ≡ os ++ flat_map unit_text us
plains_text [] us = refl
plains_text (o ∷ os) us = ap (λ l. o ∷ l) (plains_text os us)

unit_bytes : (u : TextUnit) (us : List TextUnit) → flat_map unit_text (byte_units u ++ us) ≡ char_unit_text u ++ flat_map unit_text us
unit_bytes (Plain c) us = plains_text (encode c) us
unit_bytes (Char c sp) us = refl
unit_bytes (Lone a b) us = refl
unit_bytes Stray us = refl
unit_bytes (IllFormed b) us = refl

all_bytes : (us : List TextUnit) → flat_map unit_text (flat_map byte_units us) ≡ flat_map char_unit_text us
all_bytes [] = refl
all_bytes (u ∷ us) = unit_bytes u (flat_map byte_units us) ∙ ap (λ l. char_unit_text u ++ l) (all_bytes us)

pub char_units-text : (t : List ℕ) → flat_map char_unit_text (char_units t) ≡ t
char_units-text t = sym (all_bytes (char_units t)) ∙ ap (flat_map unit_text) (sym (units-by_chars t)) ∙ units-text t

-- ---- where a character in triplets stands
record IsSplit (c : ℕ) (sp : List ℕ) (us before : List TextUnit) : Type 0 where
  prefix : List TextUnit
  back : List TextUnit
  split : us ≡ prefix ++ Char c sp ∷ back
  same : flat_map byte_units prefix ≡ before

after_plains : (os : List ℕ) (rest before after : List TextUnit) (c : ℕ) (sp : List ℕ) → plains os ++ rest ≡ before ++ Char c sp ∷ after
    → (mid : List TextUnit) × (before ≡ plains os ++ mid) × (rest ≡ mid ++ Char c sp ∷ after)
after_plains [] rest before after c sp e = (before, refl, e)
after_plains (o ∷ os) rest [] after c sp e = cc
after_plains (o ∷ os) rest (v ∷ before) after c sp e =
    let first : Plain o ≡ v = cc in
    let suffix : plains os ++ rest ≡ before ++ Char c sp ∷ after = cc in
    let r = after_plains os rest before after c sp suffix in
    (r.0, sym (ap (λ x. x ∷ before) first) ∙ ap (λ l. Plain o ∷ l) r.1, r.2)

-- it stands in the bytes of one unit, or after them
after_unit : (u : TextUnit) (rest before after : List TextUnit) (c : ℕ) (sp : List ℕ) → byte_units u ++ rest ≡ before ++ Char c sp ∷ after
    → ((u ≡ Char c sp) × (before ≡ [])) ⊎ ((mid : List TextUnit) × (before ≡ byte_units u ++ mid) × (rest ≡ mid ++ Char c sp ∷ after))
after_unit (Plain d) rest before after c sp e = inr (after_plains (encode d) rest before after c sp e)
after_unit (Char d sq) rest [] after c sp e = inl ((cc), refl)
after_unit (Lone a b) rest [] after c sp e = cc
after_unit Stray rest [] after c sp e = cc
after_unit (IllFormed b) rest [] after c sp e = cc
after_unit (Char d sq) rest (v ∷ before) after c sp e = inr (before, (cc), (cc))
after_unit (Lone a b) rest (v ∷ before) after c sp e = inr (before, (cc), (cc))
after_unit Stray rest (v ∷ before) after c sp e = inr (before, (cc), (cc))
after_unit (IllFormed b) rest (v ∷ before) after c sp e = inr (before, (cc), (cc))

char_split : (us before after : List TextUnit) (c : ℕ) (sp : List ℕ) → flat_map byte_units us ≡ before ++ Char c sp ∷ after
    → IsSplit c sp us before
char_split [] [] after c sp e = cc
char_split [] (v ∷ before) after c sp e = cc
char_split (u ∷ us) before after c sp e =
    elim (after_unit u (flat_map byte_units us) before after c sp e) [
      | inl h ↦ record { prefix = []; back = us; split = ap (λ v. v ∷ us) h.0; same = sym h.1 }
      | inr h ↦
          let r = char_split us h.0 after c sp h.2 in
          record {
            prefix = u ∷ r.prefix;
            back = r.back;
            split = ap (λ l. u ∷ l) r.split;
            same = ap (λ l. byte_units u ++ l) r.same ∙ sym h.1;
          }
    ]

-- a unit of bytes that is a character in triplets is a unit of characters, at the same byte
pub record IsPlaced (c : ℕ) (sp t : List ℕ) (place : ℕ) : Type 0 where
  pub prefix : List TextUnit
  pub back : List TextUnit
  pub split : char_units t ≡ prefix ++ Char c sp ∷ back
  pub at : length (flat_map char_unit_text prefix) ≡ place

pub char_placed : (c : ℕ) (sp t : List ℕ) (before after : List TextUnit) → units t ≡ before ++ Char c sp ∷ after
    → IsPlaced c sp t (length (flat_map unit_text before))
char_placed c sp t before after e =
    let r = char_split (char_units t) before after c sp (sym (units-by_chars t) ∙ e) in
    record { prefix = r.prefix; back = r.back; split = r.split; at = ap length (sym (all_bytes r.prefix) ∙ ap (flat_map unit_text) r.same) }

-- what the law of both readings says
pub ruleset readings = (char_units-text, units-of_chars, units-by_chars, normal-by_bytes)
