-- The units of what is held back of a value, and of what follows it.
use Rattle.iri_template.proofs.Common.{◌≡◌, ℕ, zero, suc, ◌+◌, ◌*◌, ◌-◌, ◌<◌, ◌≤◌, Bool, true, false, cond, not, ◌&&◌, List, [], ◌∷◌}
use Rattle.iri_template.proofs.Common.{◌++◌, Option, Some, None, length, take, drop, map, refl, sym, ◌∙◌, ap, subst, arith, append_assoc, append-nil}
use Rattle.iri_template.proofs.Common.{◌==◌, length-append, length-drop, flat_map, is_ascii_hexdigit, encode_utf8, len_utf8, len_utf8_bounds, both, nat_tests}
use Rattle.iri_template.proofs.Common.{Tests, any_char, TextUnit, units, limited, kept_unit, encoded_char, lacks, fewer, written_units}
use Rattle.iri_template.proofs.Common.{by_test, IsUtf8, chars, written_chars, stays, is_begun, goes_on, held_unit, unit_len, is_used_up}
use Rattle.iri_template.proofs.Common.{is_ascii_any, is_ascii_reg_name, is_ascii_unreserved, is_sub_delim, is_gen_delim}
use Rattle.std.proofs.Common.{eqb-true, ◌%◌, inl, inr}
use Rattle.std.proofs.lemmas.Bool.{cases_lt}
use Rattle.std.proofs.lemmas.Grind.{flat_map-append}
use Rattle.std.proofs.lemmas.List.{take-append-drop, take-append-le, take-map, length-map, length-take-le, take_at}
use Rattle.std.proofs.lemmas.Str.{encode_ascii, encodes-chars, length-encode}
use Rattle.std.proofs.lemmas.Str.Ascii.{IsAscii-cons, IsAscii-nil}
use Rattle.std.specs.Str.{IsAscii}
use Rattle.iri_grammar.proofs.units.FirstUnits.{hex_is_ascii}
use Rattle.std.proofs.Math.Seq.{take-append_seam, take-nil}
use lib.Utf8.{encode, encodes}
use Rattle.iri_grammar.specs.Classes.{IsSpec}
use Rattle.iri_template.specs.inside.Pieces.{IsOctets}
use Rattle.iri_percent.specs.CharUnits.{plains}
use Rattle.iri_percent.specs.Mapping.{triplets}
use Rattle.iri_percent.specs.Units.{Stray, is_triplet, octet, octets, first_char, two_digits, unit_text, read_from}
use Rattle.iri_percent.proofs.units.AtStart.{Spells, none, more, first_char_is, char_first, hex_apart, octets_other, octets_spelled, spelled}
use Rattle.iri_percent.proofs.units.AtStart.{length-spelled, units_plain, units_plains, unit_lone, units_lone, unit_char, units_char, units_stray}

-- ---- as many as may be written
take_prefix : {U : Type 0} (n : ℕ) (us vs : List U) → take n (us ++ vs) ≡ take n us ++ take (n - length us) vs
take_prefix zero us vs = let e : 0 ≡ 0 - length us = omega arith in ap (λ k. take k vs) e
take_prefix (suc n) [] vs = let e : suc n ≡ suc n - 0 = omega arith in ap (λ k. take k vs) e
take_prefix (suc n) (u ∷ us) vs = let e : n - length us ≡ suc n - suc (length us) = omega arith in
    ap (λ l. u ∷ l) (take_prefix n us vs ∙ ap (λ k. take n us ++ take k vs) e)

limited_both : {U : Type 0} (left : Option ℕ) (us vs : List U)
    → limited left (us ++ vs) ≡ limited left us ++ limited (fewer left (length us)) vs
limited_both None us vs = refl
limited_both (Some n) us vs = take_prefix n us vs

-- of two texts, or of units of both
pub chars_both : (s : Tests) (allow : Bool) (left : Option ℕ) (us vs : List ℕ)
    → written_chars s allow left (us ++ vs) ≡ written_chars s allow left us ++ written_chars s allow (fewer left (length us)) vs
chars_both s allow left us vs = ap (flat_map (encoded_char (stays s allow))) (limited_both left us vs)
    ∙ flat_map-append (encoded_char (stays s allow)) (limited left us) (limited (fewer left (length us)) vs)

pub units_both : (s : Tests) (left : Option ℕ) (us vs : List TextUnit)
    → written_units s left (us ++ vs) ≡ written_units s left us ++ written_units s (fewer left (length us)) vs
units_both s left us vs = ap (flat_map (kept_unit s)) (limited_both left us vs)
    ∙ flat_map-append (kept_unit s) (limited left us) (limited (fewer left (length us)) vs)

-- a text with these units and those of what follows
pub settled : (s : Tests) (left : Option ℕ) (t r : List ℕ) (us : List TextUnit) → units t ≡ us ++ units r
    → written_units s left (units t) ≡ written_units s left us ++ written_units s (fewer left (length us)) (units r)
settled s left t r us e = ap (written_units s left) e ∙ units_both s left us (units r)

-- two counts, one after the other
fewer_both : (left : Option ℕ) (m n : ℕ) → fewer (fewer left m) n ≡ fewer left (m + n)
fewer_both None m n = refl
fewer_both (Some k) m n = let e : k - m - n ≡ k - (m + n) = omega arith in ap Some e

-- ---- units that are written as characters are, one for each
each : (f : TextUnit → List ℕ) (g : ℕ → List ℕ) (us : List TextUnit) (cs : List ℕ) → map f us ≡ map g cs → flat_map f us ≡ flat_map g cs
each f g [] [] e = refl
each f g [] (c ∷ cs) e = cc
each f g (u ∷ us) [] e = cc
each f g (u ∷ us) (c ∷ cs) e =
    let one : f u ≡ g c = cc in
    let others : map f us ≡ map g cs = cc in
    ap (λ l. l ++ flat_map f us) one ∙ ap (λ l. g c ++ l) (each f g us cs others)

abbrev AreEach : Tests → List TextUnit → List ℕ → Type 0
AreEach s us cs = map (kept_unit s) us ≡ map (encoded_char (any_char s)) cs

each_written : (s : Tests) (left : Option ℕ) (us : List TextUnit) (cs : List ℕ) → AreEach s us cs
    → written_units s left us ≡ written_chars s true left cs
each_written s None us cs e = each (kept_unit s) (encoded_char (any_char s)) us cs e
each_written s (Some n) us cs e = each (kept_unit s) (encoded_char (any_char s)) (take n us) (take n cs)
    (sym (take-map (kept_unit s) n us) ∙ ap (take n) e ∙ take-map (encoded_char (any_char s)) n cs)

each_counted : (s : Tests) (us : List TextUnit) (cs : List ℕ) → AreEach s us cs → length us ≡ length cs
each_counted s us cs e = sym (length-map us (kept_unit s)) ∙ ap length e ∙ length-map cs (encoded_char (any_char s))

plains_each : (s : Tests) (cs : List ℕ) → AreEach s (plains cs) cs
plains_each s [] = refl
plains_each s (c ∷ cs) = ap (λ l. encoded_char (any_char s) c ∷ l) (plains_each s cs)

pub run_settled : (s : Tests) (left : Option ℕ) (cs r : List ℕ) → lacks 37 cs ≡ true
    → written_units s left (units (cs ++ r)) ≡ written_chars s true left cs ++ written_units s (fewer left (length cs)) (units r)
run_settled s left cs r h =
    let e = plains_each s cs in
    settled s left (cs ++ r) r (plains cs) (units_plains cs r h)
    ∙ ap (λ l. l ++ written_units s (fewer left (length (plains cs))) (units r)) (each_written s left (plains cs) cs e)
    ∙ ap (λ n. written_chars s true left cs ++ written_units s (fewer left n) (units r)) (each_counted s (plains cs) cs e)

-- ---- what is held back
triplet_parts : (x a b : ℕ) → is_triplet x a b ≡ true → (x ≡ 37) × ((is_ascii_hexdigit a ≡ true) × (is_ascii_hexdigit b ≡ true))
triplet_parts x a b h =
    let k = both (x == 37) (is_ascii_hexdigit a && is_ascii_hexdigit b) h in
    let l = both (is_ascii_hexdigit a) (is_ascii_hexdigit b) k.1 in
    (eqb-true x 37 k.0, (l.0, l.1))

on_by_three : (t u : List ℕ) (n c : ℕ) → length t ≡ 3 * n + length u → goes_on t c ≡ goes_on u c
on_by_three t u n c e =
    let same : length t % 3 ≡ length u % 3 = omega (arith, e) in
    ap (λ m. cond (m == 0) (c == 37) (is_ascii_hexdigit c)) same

pub begun_more : (t : List ℕ) (c : ℕ) → is_begun t ≡ true → goes_on t c ≡ true → is_begun (t ++ c ∷ []) ≡ true
begun_more [] c b h = h
begun_more (x ∷ []) c b h = rw (b, h) refl
begun_more (x ∷ a ∷ []) c b h = let k = both (x == 37) (is_ascii_hexdigit a) b in rw (k.0, k.1, h) refl
begun_more (x ∷ a ∷ d ∷ t) c b h =
    let k = both (is_triplet x a d) (is_begun t) b in
    rw k.0 (begun_more t c k.1 (sym (on_by_three (x ∷ a ∷ d ∷ t) t 1 c (omega arith)) ∙ h))

pub begun_dropped : (n : ℕ) (t : List ℕ) → is_begun t ≡ true → 3 * n ≤ length t → is_begun (drop (3 * n) t) ≡ true
begun_dropped zero t b h = b
begun_dropped (suc n) [] b h = absurd (omega (arith, h))
begun_dropped (suc n) (x ∷ []) b h = absurd (omega (arith, h))
begun_dropped (suc n) (x ∷ a ∷ []) b h = absurd (omega (arith, h))
begun_dropped (suc n) (x ∷ a ∷ d ∷ t) b h =
    let e : 3 * suc n ≡ suc (suc (suc (3 * n))) = omega arith in
    ap (λ m. is_begun (drop m (x ∷ a ∷ d ∷ t))) e ∙ begun_dropped n t (both (is_triplet x a d) (is_begun t) b).1 (omega (arith, h))

-- one that goes on with it is in ASCII
pub on_ascii : (t : List ℕ) (c : ℕ) → goes_on t c ≡ true → c < 128
on_ascii t c h = grind (arith, nat_tests)

-- what follows doesn't go on with it
abbrev pub Ends : List ℕ → List ℕ → Type 0
Ends t [] = Unit {0}
Ends t (c ∷ r) = goes_on t c ≡ false

ends_by_three : (t u r : List ℕ) (n : ℕ) → length t ≡ 3 * n + length u → Ends t r → Ends u r
ends_by_three t u [] n e h = tt
ends_by_three t u (c ∷ r) n e h = sym (on_by_three t u n c e) ∙ h

no_digits : (x c : ℕ) (r : List ℕ) → is_ascii_hexdigit c ≡ false → octets (x ∷ c ∷ r) ≡ []
no_digits x c [] h = refl
no_digits x c (e ∷ r) h = by_test x 37 (λ b. cond (b && (is_ascii_hexdigit c && is_ascii_hexdigit e)) (octet c e ∷ octets r) [] ≡ [])
    (λ _. rw h refl) (λ _. refl)

no_digit : (x a c : ℕ) (r : List ℕ) → x ≡ 37 → is_ascii_hexdigit a ≡ true → is_ascii_hexdigit c ≡ false → octets (x ∷ a ∷ c ∷ r) ≡ []
no_digit x a c r e k h = ap (λ y. octets (y ∷ a ∷ c ∷ r)) e ∙ rw (k, h) refl

octets_apart : (t r : List ℕ) → is_begun t ≡ true → Ends t r → octets (t ++ r) ≡ octets t
octets_apart [] [] b h = refl
octets_apart [] (c ∷ r) b h = octets_other c r h
octets_apart (x ∷ []) [] b h = refl
octets_apart (x ∷ []) (c ∷ r) b h = no_digits x c r h
octets_apart (x ∷ a ∷ []) [] b h = refl
octets_apart (x ∷ a ∷ []) (c ∷ r) b h = let k = both (x == 37) (is_ascii_hexdigit a) b in no_digit x a c r (eqb-true x 37 k.0) k.1 h
octets_apart (x ∷ a ∷ d ∷ t) r b h = ap (λ os. cond (is_triplet x a d) (octet a d ∷ os) [])
    (octets_apart t r (both (is_triplet x a d) (is_begun t) b).1 (ends_by_three (x ∷ a ∷ d ∷ t) t r 1 (omega arith) h))

-- ---- its first unit
-- how many octets that has
abbrev pub octets_of : Option ℕ → ℕ
octets_of None = 1
octets_of (Some c) = len_utf8 c

spelled_ascii : (t os : List ℕ) → Spells t os → IsAscii t
spelled_ascii t os none = IsAscii-nil
spelled_ascii t os (more a b sp os' p q k) = IsAscii-cons 37 (a ∷ b ∷ sp) (omega arith)
    (IsAscii-cons a (b ∷ sp) (hex_is_ascii a p) (IsAscii-cons b sp (hex_is_ascii b q) (spelled_ascii sp os' k)))

-- the octets of the character with which those of a text begin
pub begins_octets : (t : List ℕ) (c n : ℕ) → first_char (octets t) ≡ Some c → n ≡ 3 * len_utf8 c → (n ≤ length t) × IsOctets c (take n t)
begins_octets t c n h e =
    let g = first_char_is (octets t) c h in
    let k = spelled (encode c) g.rest t g.split in
    let long : length k.sp ≡ n = length-spelled k.sp (encode c) k.spells ∙ ap (λ m. 3 * m) (length-encode c) ∙ sym e in (
      omega (arith, long, ap length k.text, length-append k.sp k.xs),
      subst (IsOctets c) (sym (ap (take n) k.text ∙ take_at k.sp k.xs n long))
          (record { ascii = spelled_ascii k.sp (encode c) k.spells; unit = λ r. units_char c k.sp r g.is_scalar k.spells }),
    )

pub record IsUnit (t : List ℕ) : Type 0 where
  pub n : ℕ
  pub some : 0 < n
  pub within : 3 * n ≤ length t
  pub len : unit_len t ≡ 3 * n
  pub count : octets_of (first_char (octets t)) ≡ n
  pub text : (s : Tests) → kept_unit s (held_unit t) ≡ take (3 * n) t
  pub settled : (r : List ℕ) → (first_char (octets t) ≡ None → first_char (octets (t ++ r)) ≡ None)
      → units (t ++ r) ≡ held_unit t ∷ units (drop (3 * n) t ++ r)

unit_at : (a b : ℕ) (t : List ℕ) → is_ascii_hexdigit a ≡ true → is_ascii_hexdigit b ≡ true → IsUnit (37 ∷ a ∷ b ∷ t)
unit_at a b t p q =
    elim (first_char (octets (37 ∷ a ∷ b ∷ t))) as (λ o. first_char (octets (37 ∷ a ∷ b ∷ t)) ≡ o → IsUnit (37 ∷ a ∷ b ∷ t)) [
      | None ↦ λ e.
          let is = unit_lone a b t p q e in
          record {
            n = 1;
            some = omega arith;
            within = omega arith;
            len = ap (λ u. length (unit_text u)) is;
            count = ap octets_of e;
            text = λ s. ap (kept_unit s) is;
            settled = λ r none. units_lone a b (t ++ r) p q (none e) ∙ ap (λ u. u ∷ units (t ++ r)) (sym is);
          }
      | Some c ↦ λ e.
          let whole = 37 ∷ a ∷ b ∷ t in
          let n = 3 * len_utf8 c in
          let k = begins_octets whole c n e refl in
          let is = unit_char c a b t p q e in
          let size = len_utf8_bounds c in
          let left = drop n whole in
          record {
            n = len_utf8 c;
            some = omega (arith, size.0);
            within = k.0;
            len = ap (λ u. length (unit_text u)) is ∙ length-take-le n whole k.0;
            count = ap octets_of e;
            text = λ s. ap (kept_unit s) is;
            settled = λ r none. ap (λ l. units (l ++ r)) (sym (take-append-drop n whole)) ∙ ap units (append_assoc (take n whole) left r)
                ∙ k.1.unit (left ++ r) ∙ ap (λ u. u ∷ units (left ++ r)) (sym is);
          }
    ] refl

pub unit_of : (t : List ℕ) → is_begun t ≡ true → 3 ≤ length t → IsUnit t
unit_of [] b h = absurd (omega (arith, h))
unit_of (x ∷ []) b h = absurd (omega (arith, h))
unit_of (x ∷ a ∷ []) b h = absurd (omega (arith, h))
unit_of (x ∷ a ∷ d ∷ t) b h =
    let p = triplet_parts x a d (both (is_triplet x a d) (is_begun t) b).0 in
    subst (λ y. IsUnit (y ∷ a ∷ d ∷ t)) (sym p.0) (unit_at a d t p.1.0 p.1.1)

-- ---- as many octets as a character has at most
four_octets : (n : ℕ) (t : List ℕ) → is_begun t ≡ true → length t ≡ 3 * n → (os : List ℕ) × (Spells t os) × (length os ≡ n)
four_octets zero [] b h = ([], none, refl)
four_octets zero (x ∷ t) b h = absurd (omega (arith, h))
four_octets (suc n) [] b h = absurd (omega (arith, h))
four_octets (suc n) (x ∷ []) b h = absurd (omega (arith, h))
four_octets (suc n) (x ∷ a ∷ []) b h = absurd (omega (arith, h))
four_octets (suc n) (x ∷ a ∷ d ∷ t) b h =
    let k = both (is_triplet x a d) (is_begun t) b in
    let p = triplet_parts x a d k.0 in
    let r = four_octets n t k.1 (omega (arith, h)) in
    (octet a d ∷ r.0, subst (λ y. Spells (y ∷ a ∷ d ∷ t) (octet a d ∷ r.0)) (sym p.0) (more a d t r.0 p.1.0 p.1.1 r.1), ap suc r.2)

-- four octets that begin with no character don't begin one
none_beyond : (os zs : List ℕ) → length os ≡ 4 → first_char os ≡ None → first_char (os ++ zs) ≡ None
none_beyond os zs h e =
    elim (first_char (os ++ zs)) as (λ o. first_char (os ++ zs) ≡ o → o ≡ None) [
      | None ↦ λ _. refl
      | Some c ↦ λ f.
          let g = first_char_is (os ++ zs) c f in
          let n = length (encode c) in
          let fits : n ≤ length os = omega (arith, h, length-encode c, len_utf8_bounds c) in
          let same : take n os ≡ encode c = sym (take-append-le n os zs fits) ∙ ap (take n) g.split ∙ take-append_seam (encode c) g.rest in
          let split : os ≡ encode c ++ drop n os = sym (take-append-drop n os) ∙ ap (λ l. l ++ drop n os) same in
          let some = ap first_char split ∙ char_first c (drop n os) g.is_scalar in
          cc
    ] refl

-- what follows as many octets as a character has at most changes no unit
pub unit_settled : (t r : List ℕ) → is_begun t ≡ true → length t ≡ 12 → units (t ++ r) ≡ held_unit t ∷ units (drop (unit_len t) t ++ r)
unit_settled t r b twelve =
    let u = unit_of t b (omega (arith, twelve)) in
    let f = four_octets 4 t b twelve in
    let bare : octets t ≡ f.0 = ap octets (sym (append-nil t)) ∙ octets_spelled t f.0 [] f.1 ∙ append-nil f.0 in
    u.settled r (λ e. ap first_char (octets_spelled t f.0 r f.1) ∙ none_beyond f.0 (octets r) f.2 (ap first_char (sym bare) ∙ e))
    ∙ ap (λ n. held_unit t ∷ units (drop n t ++ r)) (sym u.len)

-- where nothing follows
unit_first : (t : List ℕ) → is_begun t ≡ true → 3 ≤ length t → units t ≡ held_unit t ∷ units (drop (unit_len t) t)
unit_first t b h =
    let u = unit_of t b h in
    ap units (sym (append-nil t)) ∙ u.settled [] (λ e. ap (λ l. first_char (octets l)) (append-nil t) ∙ e)
    ∙ ap (λ l. held_unit t ∷ units l) (append-nil (drop (3 * u.n) t)) ∙ ap (λ n. held_unit t ∷ units (drop n t)) (sym u.len)

-- what is to be written, and how much more may be then, by the first unit and those after it
pub unit_left : (s : Tests) (left m : Option ℕ) (t d : List ℕ) → is_begun t ≡ true → 3 ≤ length t → m ≡ fewer left 1 → d ≡ drop (unit_len t) t
    → (written_units s left (units t) ≡ written_units s left (held_unit t ∷ []) ++ written_units s m (units d))
    × (fewer left (length (units t)) ≡ fewer m (length (units d)))
unit_left s left m t d b h e f =
    let all : units t ≡ held_unit t ∷ units d = unit_first t b h ∙ ap (λ l. held_unit t ∷ units l) (sym f) in
    let one : length (units t) ≡ 1 + length (units d) = omega (arith, ap length all) in (
      settled s left t d (held_unit t ∷ []) all ∙ ap (λ n. written_units s left (held_unit t ∷ []) ++ written_units s n (units d)) (sym e),
      ap (fewer left) one ∙ sym (fewer_both left 1 (length (units d))) ∙ ap (λ n. fewer n (length (units d))) (sym e),
    )

-- what is left after it
pub after_unit : (t d : List ℕ) → is_begun t ≡ true → 3 ≤ length t → d ≡ drop (unit_len t) t
    → (is_begun d ≡ true) × (length d + 3 ≤ length t)
after_unit t d b h e =
    let u = unit_of t b h in (
      ap is_begun (e ∙ ap (λ n. drop n t) u.len) ∙ begun_dropped u.n t b u.within,
      omega (arith, ap length e, length-drop (unit_len t) t, u.len, u.some, u.within),
    )

-- where nothing is held back
pub nothing_left : (s : Tests) (left : Option ℕ) → (written_units s left (units []) ≡ []) × (fewer left (length (units [])) ≡ left)
unfolding read_from
nothing_left s None = (refl, refl)
nothing_left s (Some n) = let e : n - 0 ≡ n = omega arith in (ap (flat_map (kept_unit s)) (take-nil n), ap Some e)

-- ---- the beginning of a triplet is written as its characters are
any_percent : (s : Tests) → IsSpec s → any_char s 37 ≡ false
unfolding any_char is_ascii_any is_ascii_reg_name is_ascii_unreserved is_sub_delim is_gen_delim
any_percent s k = rw (k.ucs_ascii 37 (omega arith), k.priv_ascii 37 (omega arith)) refl

stray_written : (s : Tests) → IsSpec s → kept_unit s Stray ≡ encoded_char (any_char s) 37
stray_written s k = sym (ap (λ b. cond b (encode_utf8 37) (triplets (encode_utf8 37))) (any_percent s k)
    ∙ ap triplets (encode_ascii 37 (omega arith)))

-- fewer than three bytes, each a unit
abbrev short_units : List ℕ → List TextUnit
short_units [] = []
short_units (x ∷ t) = Stray ∷ plains t

short_each : (s : Tests) (t : List ℕ) → IsSpec s → is_begun t ≡ true → length t < 3 → AreEach s (short_units t) t
short_each s [] k b h = refl
short_each s (x ∷ t) k b h = ap (λ l. l ∷ map (kept_unit s) (plains t)) (stray_written s k ∙ ap (encoded_char (any_char s)) (sym (percent t b h)))
    ∙ ap (λ l. encoded_char (any_char s) x ∷ l) (plains_each s t)
  where
    percent : (t : List ℕ) → is_begun (x ∷ t) ≡ true → length (x ∷ t) < 3 → x ≡ 37
    percent [] b h = eqb-true x 37 b
    percent (a ∷ []) b h = eqb-true x 37 (both (x == 37) (is_ascii_hexdigit a) b).0
    percent (a ∷ d ∷ t) b h = absurd (omega (arith, h))

short_apart : (t r : List ℕ) → is_begun t ≡ true → length t < 3 → Ends t r → units (t ++ r) ≡ short_units t ++ units r
unfolding read_from
short_apart [] r b h e = refl
short_apart (x ∷ []) [] b h e = ap (λ y. units (y ∷ [])) (eqb-true x 37 b) ∙ units_stray [] refl
short_apart (x ∷ []) (c ∷ r) b h e = ap (λ y. units (y ∷ c ∷ r)) (eqb-true x 37 b) ∙ units_stray (c ∷ r) (no_two r)
  where
    no_two : (r : List ℕ) → two_digits (c ∷ r) ≡ false
    no_two [] = refl
    no_two (d ∷ r) = rw e refl
short_apart (x ∷ a ∷ []) r b h e =
    let k = both (x == 37) (is_ascii_hexdigit a) b in
    ap (λ y. units (y ∷ a ∷ r)) (eqb-true x 37 k.0) ∙ units_stray (a ∷ r) (no_second r e)
    ∙ ap (λ us. Stray ∷ us) (units_plain a r (hex_apart a k.1))
  where
    no_second : (r : List ℕ) → Ends (x ∷ a ∷ []) r → two_digits (a ∷ r) ≡ false
    no_second [] e = refl
    no_second (c ∷ r) e = by_digit (is_ascii_hexdigit a) e
      where
        by_digit : (v : Bool) → is_ascii_hexdigit c ≡ false → (v && is_ascii_hexdigit c) ≡ false
        by_digit true e = e
        by_digit false e = refl
short_apart (x ∷ a ∷ d ∷ t) r b h e = absurd (omega (arith, h))

short_is : (t : List ℕ) → is_begun t ≡ true → length t < 3 → units t ≡ short_units t
unfolding read_from
short_is t b h = ap units (sym (append-nil t)) ∙ short_apart t [] b h tt ∙ append-nil (short_units t)

pub short_written : (s : Tests) (left : Option ℕ) (t : List ℕ) → IsSpec s → is_begun t ≡ true → length t < 3
    → (written_chars s true left t ≡ written_units s left (units t)) × (length t ≡ length (units t))
short_written s left t k b h =
    let e = short_each s t k b h in (
      sym (each_written s left (short_units t) t e) ∙ ap (written_units s left) (sym (short_is t b h)),
      sym (each_counted s (short_units t) t e) ∙ ap length (sym (short_is t b h)),
    )

-- ---- all of it, where what follows doesn't go on with it
short_whole : (t r : List ℕ) → is_begun t ≡ true → length t < 3 → Ends t r → units (t ++ r) ≡ units t ++ units r
short_whole t r b h e = short_apart t r b h e ∙ ap (λ us. us ++ units r) (sym (short_is t b h))

pub held_apart : (k : ℕ) (t r : List ℕ) → length t ≤ k → is_begun t ≡ true → Ends t r → units (t ++ r) ≡ units t ++ units r
held_apart zero t r h b e = short_whole t r b (omega (arith, h)) e
held_apart (suc k) t r h b e =
    elim (cases_lt (length t) 3) [
      | inl short ↦ short_whole t r b short e
      | inr long ↦
          let u = unit_of t b long in
          let d = drop (3 * u.n) t in
          let count = length-drop (3 * u.n) t in
          let rest = held_apart k d r (omega (arith, h, u.some, u.within, count)) (begun_dropped u.n t b u.within)
          (ends_by_three t d r u.n (omega (arith, u.within, count)) e) in
          u.settled r (λ f. ap first_char (octets_apart t r b e) ∙ f) ∙ ap (λ us. held_unit t ∷ us) rest
          ∙ ap (λ us. us ++ units r) (sym (unit_first t b long ∙ ap (λ n. held_unit t ∷ units (drop n t)) u.len))
    ]

-- the text of a unit, where it may be written
pub one_written : (s : Tests) (left : Option ℕ) (u : TextUnit) → cond (is_used_up left) [] (kept_unit s u) ≡ written_units s left (u ∷ [])
one_written s None u = sym (append-nil (kept_unit s u))
one_written s (Some zero) u = refl
one_written s (Some (suc n)) u = sym (append-nil (kept_unit s u)) ∙ ap (λ us. flat_map (kept_unit s) (u ∷ us)) (sym (take-nil n))

pub unit_written : (s : Tests) (left : Option ℕ) (t : List ℕ) → is_begun t ≡ true → 3 ≤ length t
    → cond (is_used_up left) [] (take (unit_len t) t) ≡ written_units s left (held_unit t ∷ [])
unit_written s left t b h =
    let u = unit_of t b h in
    ap (cond (is_used_up left) []) (ap (λ n. take n t) u.len ∙ sym (u.text s)) ∙ one_written s left (held_unit t)

-- how long it is, by the character with which the text begins
pub unit_counted : (t : List ℕ) (o : Option ℕ) → is_begun t ≡ true → 3 ≤ length t → first_char (octets t) ≡ o → unit_len t ≡ 3 * octets_of o
unit_counted t o b h e = let u = unit_of t b h in u.len ∙ ap (λ n. 3 * n) (sym u.count ∙ ap octets_of e)

-- ---- the characters of a text without `%`
lacks_right : (xs ys : List ℕ) → lacks 37 (xs ++ ys) ≡ true → lacks 37 ys ≡ true
lacks_right [] ys h = h
lacks_right (x ∷ xs) ys h = lacks_right xs ys (both (not (x == 37)) (lacks 37 (xs ++ ys)) h).1

encodes_lack : (cs : List ℕ) → lacks 37 (encodes cs) ≡ true → lacks 37 cs ≡ true
encodes_lack [] h = refl
encodes_lack (x ∷ cs) h =
    by_test x 37 (λ b. (not b && lacks 37 cs) ≡ true)
    (λ e. subst (λ l. lacks 37 (l ++ encodes cs) ≡ true) (encode_ascii 37 (omega arith))
    (subst (λ y. lacks 37 (encode y ++ encodes cs) ≡ true) e h))
    (λ _. encodes_lack cs (lacks_right (encode x) (encodes cs) h))

pub chars_lack : (t : List ℕ) → IsUtf8 t → lacks 37 t ≡ true → lacks 37 (chars t) ≡ true
chars_lack t u h = encodes_lack (chars t) (subst (λ (x : List ℕ). lacks 37 x ≡ true) (sym (encodes-chars t u)) h)

-- a character that is held back
pub joined_text : (t u : List ℕ) (c : ℕ) (r : List ℕ) → u ≡ t ++ c ∷ [] → t ++ c ∷ r ≡ u ++ r
joined_text t u c r e = sym (append_assoc t (c ∷ []) r) ∙ ap (λ l. l ++ r) (sym e)
