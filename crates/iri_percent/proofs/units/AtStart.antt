-- How a text is read: octets, characters and units at its start.
use Rattle.iri_percent.proofs.Common.{◌==◌, ◌/◌, list_all, is_ascii_hexdigit, len_utf8, chars, ltb, encode, encodes, next, scalar, scalars}
use Rattle.iri_percent.proofs.Common.{encode_ascii, length-encode, take_at, drop_at, nat_tests, both, Plain, Char, Lone, Stray, is_triplet}
use Rattle.iri_percent.proofs.Common.{octet, octets, first_char, triplet_unit, first_unit, unit_text, read_from, units, lacks, not-true}
use Rattle.iri_percent.proofs.Common.{not, plains, ltb-true, ◌<◌, two_digits, TextUnit}
use Rattle.std.proofs.Common.{◌≡◌, ℕ, zero, suc, ◌+◌, ◌*◌, ◌-◌, ◌≤◌, Bool, true, false, cond, ◌&&◌, List, [], ◌∷◌, ◌++◌, Some, None, length}
use Rattle.std.proofs.Common.{take, drop, refl, sym, ◌∙◌, ap, subst, arith, append_assoc, append-nil, eq-eqb, eqb-true, ◌↔◌}
use Rattle.std.specs.Int.{is_in_range}
use Rattle.std.proofs.lemmas.Str.{chars-append, chars-encodes, IsUtf8-encode}
use Rattle.std.proofs.lemmas.Bool.{and_from}
use Rattle.iri_grammar.proofs.units.FirstUnits.{hex_is_ascii}
use Rattle.iri_percent.specs.Units.{starts_with, well_formed}

-- ---- octets
pub hex_apart : (x : ℕ) → is_ascii_hexdigit x ≡ true → (x == 37) ≡ false
hex_apart x h = grind (arith, nat_tests)

-- a triplet is in ASCII
pub encodes_triplet : (a b : ℕ) (cs : List ℕ) → is_ascii_hexdigit a ≡ true → is_ascii_hexdigit b ≡ true
    → encodes (37 ∷ a ∷ b ∷ cs) ≡ 37 ∷ a ∷ b ∷ encodes cs
encodes_triplet a b cs p q = ap (λ l. l ++ (encode a ++ (encode b ++ encodes cs))) (encode_ascii 37 (omega arith))
    ∙ ap (λ l. 37 ∷ (l ++ (encode b ++ encodes cs))) (encode_ascii a (hex_is_ascii a p))
    ∙ ap (λ l. 37 ∷ a ∷ (l ++ encodes cs)) (encode_ascii b (hex_is_ascii b q))

-- a text without `%` begins with another byte
pub lacks_first : (x : ℕ) (xs : List ℕ) → lacks 37 (x ∷ xs) ≡ true → ((x == 37) ≡ false) × (lacks 37 xs ≡ true)
lacks_first x xs h = let k = both (not (x == 37)) (lacks 37 xs) h in (not-true (x == 37) k.0, k.1)

pub octets_other : (x : ℕ) (xs : List ℕ) → (x == 37) ≡ false → octets (x ∷ xs) ≡ []
octets_other x [] h = refl
octets_other x (a ∷ []) h = refl
octets_other x (a ∷ b ∷ xs) h = rw h refl

pub octets_triplet : (a b : ℕ) (xs : List ℕ) → is_ascii_hexdigit a ≡ true → is_ascii_hexdigit b ≡ true
    → octets (37 ∷ a ∷ b ∷ xs) ≡ octet a b ∷ octets xs
octets_triplet a b xs p q = rw (p, q) refl

-- triplets that spell octets
pub data Spells : List ℕ → List ℕ → Type 0 where
  none : Spells [] []
  more : (a b : ℕ) (sp os : List ℕ) → is_ascii_hexdigit a ≡ true → is_ascii_hexdigit b ≡ true → Spells sp os
      → Spells (37 ∷ a ∷ b ∷ sp) (octet a b ∷ os)

pub octets_spelled : (sp os xs : List ℕ) → Spells sp os → octets (sp ++ xs) ≡ os ++ octets xs
octets_spelled sp os xs none = refl
octets_spelled sp os xs (more a b sp' os' p q k) =
    octets_triplet a b (sp' ++ xs) p q ∙ ap (λ ys. octet a b ∷ ys) (octets_spelled sp' os' xs k)

pub length-spelled : (sp os : List ℕ) → Spells sp os → length sp ≡ 3 * length os
length-spelled sp os none = refl
length-spelled sp os (more a b sp' os' p q k) = let e = length-spelled sp' os' k in omega arith

-- a text whose octets begin with some begins with triplets that spell them
pub record Spelled (t os rest : List ℕ) : Type 0 where
  pub sp : List ℕ
  pub xs : List ℕ
  pub text : t ≡ sp ++ xs
  pub spells : Spells sp os
  pub after : octets xs ≡ rest

pub spelled : (os rest t : List ℕ) → octets t ≡ os ++ rest → Spelled t os rest
spelled [] rest t h = record { sp = []; xs = t; text = refl; spells = none; after = h }
spelled (o ∷ os) rest [] h = cc
spelled (o ∷ os) rest (x ∷ []) h = cc
spelled (o ∷ os) rest (x ∷ a ∷ []) h = cc
spelled (o ∷ os) rest (x ∷ a ∷ b ∷ xs) h =
    elim (is_triplet x a b) as (λ v. is_triplet x a b ≡ v → cond v (octet a b ∷ octets xs) [] ≡ o ∷ (os ++ rest)
    → Spelled (x ∷ a ∷ b ∷ xs) (o ∷ os) rest) [
      | true ↦ λ e k.
          let one = both (x == 37) (is_ascii_hexdigit a && is_ascii_hexdigit b) e in
          let two = both (is_ascii_hexdigit a) (is_ascii_hexdigit b) one.1 in
          let same : octet a b ≡ o = cc in
          let tail : octets xs ≡ os ++ rest = cc in
          let r = spelled os rest xs tail in
          record {
            sp = 37 ∷ a ∷ b ∷ r.sp;
            xs = r.xs;
            text = ap (λ n. n ∷ a ∷ b ∷ xs) (eqb-true x 37 one.0) ∙ ap (λ ys. 37 ∷ a ∷ b ∷ ys) r.text;
            spells = subst (λ n. Spells (37 ∷ a ∷ b ∷ r.sp) (n ∷ os)) same (more a b r.sp os two.0 two.1 r.spells);
            after = r.after;
          }
      | false ↦ λ _ k. cc
    ] refl h

-- ---- characters
pub record BeginsChar (os : List ℕ) (c : ℕ) : Type 0 where
  pub is_scalar : scalar c ≡ true
  pub rest : List ℕ
  pub split : os ≡ encode c ++ rest

starts : (xs ys : List ℕ) → starts_with xs ys ≡ true → (rest : List ℕ) × (xs ≡ ys ++ rest)
starts xs [] h = (xs, refl)
starts [] (y ∷ ys) h = cc
starts (x ∷ xs) (y ∷ ys) h =
    let k = both (x == y) (starts_with xs ys) h in
    let r = starts xs ys k.1 in
    (r.0, ap (λ n. n ∷ xs) (eqb-true x y k.0) ∙ ap (λ zs. y ∷ zs) r.1)

starts_prefix : (ys rest : List ℕ) → starts_with (ys ++ rest) ys ≡ true
starts_prefix [] [] = refl
starts_prefix [] (x ∷ rest) = refl
starts_prefix (y ∷ ys) rest = rw (eq-eqb y y refl) (starts_prefix ys rest)

well : (os cs : List ℕ) (c : ℕ) → well_formed os cs ≡ Some c → BeginsChar os c
well os [] c h = cc
well os (d ∷ ds) c h =
    elim (scalar d && starts_with os (encode d)) as (λ b. (scalar d && starts_with os (encode d)) ≡ b → cond b (Some d) None ≡ Some c
    → BeginsChar os c) [
      | true ↦ λ e k.
          let same : d ≡ c = cc in
          let t = both (scalar d) (starts_with os (encode d)) e in
          let r = starts os (encode d) t.1 in
          subst (λ n. BeginsChar os n) same (record { is_scalar = t.0; rest = r.0; split = r.1 })
      | false ↦ λ _ k. cc
    ] refl h

pub first_char_is : (os : List ℕ) (c : ℕ) → first_char os ≡ Some c → BeginsChar os c
unfolding first_char
first_char_is os c h = well os (chars os) c h

chars_prefix : (c : ℕ) (rest : List ℕ) → scalar c ≡ true → chars (encode c ++ rest) ≡ c ∷ chars rest
chars_prefix c rest h =
    let one : scalars (c ∷ []) ≡ true = rw h refl in
    let alone : chars (encode c) ≡ c ∷ [] = ap chars (sym (append-nil (encode c))) ∙ chars-encodes (c ∷ []) one in
    chars-append (encode c) rest (IsUtf8-encode c h) ∙ ap (λ cs. cs ++ chars rest) alone

pub char_first : (c : ℕ) (rest : List ℕ) → scalar c ≡ true → first_char (encode c ++ rest) ≡ Some c
unfolding first_char
char_first c rest h = ap (well_formed (encode c ++ rest)) (chars_prefix c rest h) ∙ rw (h, starts_prefix (encode c) rest) refl

pub first_char_split : (os : List ℕ) (c : ℕ) → (first_char os ≡ Some c) ↔ ((scalar c ≡ true) × ((rest : List ℕ) × (os ≡ encode c ++ rest)))
first_char_split os c = (
  λ h. let g = first_char_is os c h in (g.is_scalar, (g.rest, g.split)),
  λ h. ap first_char h.1.1 ∙ char_first c h.1.0 h.0,
)

-- fewer octets begin with no other character
pub none_before : (xs ys zs : List ℕ) → ys ≡ xs ++ zs → first_char ys ≡ None → first_char xs ≡ None
none_before xs ys zs e n =
    elim (first_char xs) as (λ o. first_char xs ≡ o → o ≡ None) [
      | None ↦ λ _. refl
      | Some c ↦ λ h.
          let b = first_char_is xs c h in
          let w : ys ≡ encode c ++ (b.rest ++ zs) = e ∙ ap (λ l. l ++ zs) b.split ∙ append_assoc (encode c) b.rest zs in
          let s : first_char ys ≡ Some c = ap first_char w ∙ char_first c (b.rest ++ zs) b.is_scalar in
          cc
    ] refl

-- a byte that continues a character
abbrev pub is_continuation : ℕ → Bool
is_continuation b = is_in_range 128 191 b

-- the bytes of a character: one that continues none, and some that do
pub record Bytes (c : ℕ) (os : List ℕ) : Type 0 where
  pub lead : ℕ
  pub tail : List ℕ
  pub split : os ≡ lead ∷ tail
  pub leads : is_continuation lead ≡ false
  pub continue : list_all is_continuation tail ≡ true
  pub percent : (lead == 37) ≡ (c == 37)
  pub bounds : ltb c 128 ≡ false → c < 1114112 → (192 ≤ lead) × (lead < 256)

pub next_continues : (x : ℕ) → is_continuation (next x) ≡ true
next_continues x = grind (arith, nat_tests)

far_bytes : (c lead : ℕ) (tail : List ℕ) → ltb c 128 ≡ false → 192 ≤ lead → (c < 1114112 → lead < 256) → list_all is_continuation tail ≡ true
    → Bytes c (lead ∷ tail)
far_bytes c lead tail e h l k = record {
  lead = lead;
  tail = tail;
  split = refl;
  leads = grind (arith, nat_tests);
  continue = k;
  percent = grind (arith, nat_tests);
  bounds = λ _ u. (h, l u);
}

pub encode_bytes : (c : ℕ) → Bytes c (encode c)
unfolding encode
encode_bytes c =
    elim (ltb c 128) as (λ b. ltb c 128 ≡ b → Bytes c
    (cond b (c ∷ []) (cond (ltb c 2048) ((192 + c / 64) ∷ next c ∷ [])
    (cond (ltb c 65536) ((224 + c / 4096) ∷ next (c / 64) ∷ next c ∷ [])
    ((240 + c / 262144) ∷ next (c / 4096) ∷ next (c / 64) ∷ next c ∷ []))))) [
      | true ↦ λ e. record { lead = c; tail = []; split = refl; leads = grind (arith, nat_tests); continue = refl; percent = refl; bounds = λ no _. absurd (cc) }
      | false ↦ λ e. elim (ltb c 2048) as (λ b. ltb c 2048 ≡ b → Bytes c
          (cond b ((192 + c / 64) ∷ next c ∷ []) (cond (ltb c 65536) ((224 + c / 4096) ∷ next (c / 64) ∷ next c ∷ [])
          ((240 + c / 262144) ∷ next (c / 4096) ∷ next (c / 64) ∷ next c ∷ [])))) [
            | true ↦ λ two. far_bytes c (192 + c / 64) (next c ∷ []) e (omega arith) (λ _. omega (arith, ltb-true c 2048 two)) (rw (next_continues c) refl)
            | false ↦ λ _. elim (ltb c 65536) as (λ b. ltb c 65536 ≡ b → Bytes c (cond b ((224 + c / 4096) ∷ next (c / 64) ∷ next c ∷ [])
                ((240 + c / 262144) ∷ next (c / 4096) ∷ next (c / 64) ∷ next c ∷ []))) [
                  | true ↦ λ three. far_bytes c (224 + c / 4096) (next (c / 64) ∷ next c ∷ []) e (omega arith) (λ _. omega (arith, ltb-true c 65536 three))
                      (rw (next_continues (c / 64), next_continues c) refl)
                  | false ↦ λ _. far_bytes c (240 + c / 262144) (next (c / 4096) ∷ next (c / 64) ∷ next c ∷ []) e (omega arith) (λ u. omega (arith, u))
                      (rw (next_continues (c / 4096), next_continues (c / 64), next_continues c) refl)
                ] refl
          ] refl
    ] refl

-- no character begins with a byte that continues one
pub continuation_none : (b : ℕ) (bs : List ℕ) → is_continuation b ≡ true → first_char (b ∷ bs) ≡ None
continuation_none b bs k =
    elim (first_char (b ∷ bs)) as (λ o. first_char (b ∷ bs) ≡ o → o ≡ None) [
      | None ↦ λ _. refl
      | Some c ↦ λ h.
          let g = first_char_is (b ∷ bs) c h in
          let e = encode_bytes c in
          let w : b ∷ bs ≡ e.lead ∷ (e.tail ++ g.rest) = g.split ∙ ap (λ l. l ++ g.rest) e.split in
          let same : b ≡ e.lead = cc in
          let no : is_continuation b ≡ false = ap is_continuation same ∙ e.leads in
          cc
    ] refl

-- ---- units
-- bytes that belong to a unit already
pub read_from_drop : (first : ℕ → List ℕ → TextUnit) (bytes : TextUnit → List ℕ) (n : ℕ) (t : List ℕ)
    → read_from first bytes n t ≡ read_from first bytes 0 (drop n t)
unfolding read_from
read_from_drop first bytes zero t = refl
read_from_drop first bytes (suc n) [] = refl
read_from_drop first bytes (suc n) (x ∷ xs) = read_from_drop first bytes n xs

-- a unit, and what is read after its bytes
pub read_unit : (first : ℕ → List ℕ → TextUnit) (bytes : TextUnit → List ℕ) (x : ℕ) (ys xs : List ℕ) (u : TextUnit)
    → first x (ys ++ xs) ≡ u → length (bytes u) ≡ length (x ∷ ys)
    → read_from first bytes 0 (x ∷ (ys ++ xs)) ≡ u ∷ read_from first bytes 0 xs
unfolding read_from
read_unit first bytes x ys xs u h n =
    let less : length (bytes u) - 1 ≡ length ys = omega (arith, n) in
    ap (λ v. v ∷ read_from first bytes (length (bytes v) - 1) (ys ++ xs)) h
    ∙ ap (λ m. u ∷ read_from first bytes m (ys ++ xs)) less
    ∙ ap (λ us. u ∷ us) (read_from_drop first bytes (length ys) (ys ++ xs)
    ∙ ap (read_from first bytes 0) (drop_at ys xs (length ys) refl))

pub byte_other : (x : ℕ) (xs : List ℕ) → (x == 37) ≡ false → first_unit x xs ≡ Plain x
byte_other x [] h = rw h refl
byte_other x (a ∷ []) h = rw h refl
byte_other x (a ∷ b ∷ xs) h = rw h refl

pub units_plain : (x : ℕ) (xs : List ℕ) → (x == 37) ≡ false → units (x ∷ xs) ≡ Plain x ∷ units xs
units_plain x xs h = read_unit first_unit unit_text x [] xs (Plain x) (byte_other x xs h) refl

pub units_plains : (ys xs : List ℕ) → lacks 37 ys ≡ true → units (ys ++ xs) ≡ plains ys ++ units xs
units_plains [] xs h = refl
units_plains (y ∷ ys) xs h = let k = lacks_first y ys h in units_plain y (ys ++ xs) k.0 ∙ ap (λ us. Plain y ∷ us) (units_plains ys xs k.1)

pub unit_lone : (a b : ℕ) (xs : List ℕ) → is_ascii_hexdigit a ≡ true → is_ascii_hexdigit b ≡ true
    → first_char (octets (37 ∷ a ∷ b ∷ xs)) ≡ None → first_unit 37 (a ∷ b ∷ xs) ≡ Lone a b
unit_lone a b xs p q n =
    ap (λ v. cond v (triplet_unit a b (37 ∷ a ∷ b ∷ xs) (first_char (octets (37 ∷ a ∷ b ∷ xs)))) Stray)
    (and_from (is_ascii_hexdigit a) (is_ascii_hexdigit b) p q)
    ∙ ap (triplet_unit a b (37 ∷ a ∷ b ∷ xs)) n

pub units_lone : (a b : ℕ) (xs : List ℕ) → is_ascii_hexdigit a ≡ true → is_ascii_hexdigit b ≡ true
    → first_char (octets (37 ∷ a ∷ b ∷ xs)) ≡ None → units (37 ∷ a ∷ b ∷ xs) ≡ Lone a b ∷ units xs
units_lone a b xs p q n = read_unit first_unit unit_text 37 (a ∷ b ∷ []) xs (Lone a b) (unit_lone a b xs p q n) refl

pub unit_char : (c a b : ℕ) (xs : List ℕ) → is_ascii_hexdigit a ≡ true → is_ascii_hexdigit b ≡ true
    → first_char (octets (37 ∷ a ∷ b ∷ xs)) ≡ Some c → first_unit 37 (a ∷ b ∷ xs) ≡ Char c (take (3 * len_utf8 c) (37 ∷ a ∷ b ∷ xs))
unit_char c a b xs p q n =
    ap (λ v. cond v (triplet_unit a b (37 ∷ a ∷ b ∷ xs) (first_char (octets (37 ∷ a ∷ b ∷ xs)))) Stray)
    (and_from (is_ascii_hexdigit a) (is_ascii_hexdigit b) p q)
    ∙ ap (triplet_unit a b (37 ∷ a ∷ b ∷ xs)) n

units_char_at : (c : ℕ) (sp os xs : List ℕ) → scalar c ≡ true → Spells sp os → os ≡ encode c → units (sp ++ xs) ≡ Char c sp ∷ units xs
units_char_at c sp os xs h none e = let b = encode_bytes c in let no : [] ≡ b.lead ∷ b.tail = e ∙ b.split in cc
units_char_at c sp os xs h (more a b sp' os' p q k) e =
    let whole : octets (37 ∷ a ∷ b ∷ (sp' ++ xs)) ≡ encode c ++ octets xs =
    octets_spelled (37 ∷ a ∷ b ∷ sp') (octet a b ∷ os') xs (more a b sp' os' p q k) ∙ ap (λ l. l ++ octets xs) e in
    let first : first_char (octets (37 ∷ a ∷ b ∷ (sp' ++ xs))) ≡ Some c = ap first_char whole ∙ char_first c (octets xs) h in
    let long : length (37 ∷ a ∷ b ∷ sp') ≡ 3 * len_utf8 c =
    length-spelled (37 ∷ a ∷ b ∷ sp') (octet a b ∷ os') (more a b sp' os' p q k) ∙ ap (λ l. 3 * length l) e
    ∙ ap (λ n. 3 * n) (length-encode c) in
    let taken : take (3 * len_utf8 c) (37 ∷ a ∷ b ∷ (sp' ++ xs)) ≡ 37 ∷ a ∷ b ∷ sp' = take_at (37 ∷ a ∷ b ∷ sp') xs (3 * len_utf8 c) long in
    let unit : first_unit 37 (a ∷ b ∷ (sp' ++ xs)) ≡ Char c (37 ∷ a ∷ b ∷ sp') =
    unit_char c a b (sp' ++ xs) p q first ∙ ap (λ l. Char c l) taken in
    read_unit first_unit unit_text 37 (a ∷ b ∷ sp') xs (Char c (37 ∷ a ∷ b ∷ sp')) unit refl

pub units_char : (c : ℕ) (sp xs : List ℕ) → scalar c ≡ true → Spells sp (encode c) → units (sp ++ xs) ≡ Char c sp ∷ units xs
units_char c sp xs h k = units_char_at c sp (encode c) xs h k refl

pub units_stray : (xs : List ℕ) → two_digits xs ≡ false → units (37 ∷ xs) ≡ Stray ∷ units xs
units_stray xs h = read_unit first_unit unit_text 37 [] xs Stray (stray xs h) refl
  where
    stray : (xs : List ℕ) → two_digits xs ≡ false → first_unit 37 xs ≡ Stray
    stray [] h = refl
    stray (a ∷ []) h = refl
    stray (a ∷ b ∷ xs) h = ap (λ v. cond v (triplet_unit a b (37 ∷ a ∷ b ∷ xs) (first_char (octets (37 ∷ a ∷ b ∷ xs)))) Stray) h
