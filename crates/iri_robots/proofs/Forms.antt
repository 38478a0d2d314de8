-- The compared form, from the left.
use Rattle.iri_robots.proofs.Common.{◌≡◌, ℕ, ◌<◌, ◌≤◌, true, false, ◌&&◌, List, [], ◌∷◌, ◌++◌, Option, Some, None, length, drop, take, suc}
use Rattle.iri_robots.proofs.Common.{cond, refl, sym, ◌∙◌, ap, subst, arith, append-nil, ◌==◌, nat_lt, to_ascii_uppercase, encode_ascii}
use Rattle.iri_robots.proofs.Common.{nat_tests, run_of, compared, query_text, IsPrefix, stays}
use Rattle.std.proofs.Common.{get_or, map, Bor}
use Rattle.std.specs.Prelude.{◌/◌, ◌%◌}
use Rattle.std.specs.List.{flat_map}
use Rattle.std.specs.Char.{is_ascii_hexdigit, encode_utf8}
use Rattle.std.proofs.Math.Bool.{and-false, or-false}
use Rattle.std.proofs.Math.Utf8.{low_scalar}
use Rattle.std.proofs.lemmas.Bool.{le-ltb, lt-ltb}
use Rattle.iri_grammar.specs.Classes.{uri_tests, unreserved, is_ascii_unreserved, is_ascii_query, is_ascii_pchar, is_ascii_reg_name, is_sub_delim}
use Rattle.iri_grammar.specs.ClassTests.{ascii_test}
use Rattle.iri_grammar.specs.declared.class.Class.TheVariants.{Query}
use Rattle.iri_grammar.proofs.splits.CutLaws.{test_apart}
use Rattle.iri_grammar.proofs.units.ClassLaws.{ascii_test_below}
use Rattle.iri_grammar.proofs.units.FirstUnits.{run_of_le}
use Rattle.iri_percent.specs.Units.{octet, octets, two_digits}
use Rattle.iri_percent.specs.Triplets.{normal, as_it_is}
use Rattle.iri_percent.specs.ByteForm.{written}
use Rattle.iri_percent.specs.Mapping.{capital_hex, triplet, mapped}
use Rattle.iri_percent.specs.Triplets.{decoded}
use Rattle.iri_percent.proofs.forms.Changes.{upper_digit}
use Rattle.iri_percent.proofs.units.ByBytes.{normal-by_bytes}
use Rattle.iri_percent.proofs.characters.Spellings.{unreserved_low}
use Rattle.iri_percent.proofs.units.ByCharacters.{no_two, units_stray}
use Rattle.iri_percent.proofs.mapping.NormalForms.{ascii-decoded, uri-decoded}
use Rattle.iri_percent.proofs.mapping.Texts.{mapped-low, mapped-high, mapped-triplet, capital_is_hex, first_digit, second_digit, octet_of}
use Rattle.iri_percent.proofs.forms.ByUnits.{normal_nil, normal_plain, normal_decoded, normal_kept}
use Rattle.iri_percent.proofs.coding.SpelledTriplets.{hex_below}
use Rattle.iri_percent.proofs.units.AtStart.{Spells, none, more, octets_triplet}
use Rattle.iri_robots.proofs.FormLaws.{compared_delimiter}
use Rattle.iri_robots.specs.declared.compared.Written.TheVariants.{Run, Char, Triplet}

-- ---- what is decoded: the first octet alone tells it
record Decodes (o c : ℕ) : Type 0 where
  same : o ≡ c
  free : is_ascii_unreserved o ≡ true

decodes : (o : ℕ) (os : List ℕ) (c : ℕ) → decoded uri_tests (o ∷ os) ≡ Some c → Decodes o c
decodes o os c h =
    elim (is_ascii_unreserved o) as (λ b. is_ascii_unreserved o ≡ b → Decodes o c) [
      | true ↦ λ e. let k : Some o ≡ Some c = sym (ascii-decoded uri_tests o os e) ∙ h in record { same = cc; free = e }
      | false ↦ λ e. let k : None ≡ Some c = sym (uri-decoded o os e) ∙ h in cc
    ] refl

keeps : (o : ℕ) (os : List ℕ) → decoded uri_tests (o ∷ os) ≡ None → is_ascii_unreserved o ≡ false
keeps o os h =
    elim (is_ascii_unreserved o) as (λ b. is_ascii_unreserved o ≡ b → b ≡ false) [
      | true ↦ λ e. let k : Some o ≡ None = sym (ascii-decoded uri_tests o os e) ∙ h in cc
      | false ↦ λ e. refl
    ] refl

-- ---- the form of a text, byte by byte
pub compared_nil : compared [] ≡ []
unfolding compared
compared_nil = normal_nil uri_tests as_it_is

pub compared_low : (x : ℕ) (xs : List ℕ) → x < 128 → (x == 37) ≡ false → compared (x ∷ xs) ≡ x ∷ compared xs
unfolding compared
compared_low x xs l n = ap (normal uri_tests as_it_is) (mapped-low x xs (lt-ltb x 128 l)) ∙ normal_plain uri_tests as_it_is x (mapped xs) n

pub compared_decoded : (a b : ℕ) (xs : List ℕ) → is_ascii_hexdigit a ≡ true → is_ascii_hexdigit b ≡ true
    → is_ascii_unreserved (octet a b) ≡ true
    → compared (37 ∷ a ∷ b ∷ xs) ≡ encode_utf8 (octet a b) ++ compared xs
unfolding compared unreserved
compared_decoded a b xs p q h =
    let o = octet a b in
    let l = unreserved_low o h in
    let spell = more a b [] [] p q none in
    ap (normal uri_tests as_it_is) (mapped-triplet a b xs p q)
    ∙ normal_decoded uri_tests as_it_is o (37 ∷ a ∷ b ∷ []) (mapped xs) (low_scalar o (omega (arith, l))) (or-false (is_ascii_unreserved o) ∙ h)
    (subst (λ os. Spells (37 ∷ a ∷ b ∷ []) os) (sym (encode_ascii o l)) spell)
    ∙ ap (λ z. map as_it_is z ++ normal uri_tests as_it_is (mapped xs)) (encode_ascii o l)
    ∙ ap (λ z. z ++ normal uri_tests as_it_is (mapped xs)) (sym (encode_ascii o l))

kept_form : (a b : ℕ) (xs : List ℕ) → is_ascii_hexdigit a ≡ true → is_ascii_hexdigit b ≡ true → is_ascii_unreserved (octet a b) ≡ false
    → normal uri_tests as_it_is (37 ∷ a ∷ b ∷ xs) ≡ 37 ∷ to_ascii_uppercase a ∷ to_ascii_uppercase b ∷ normal uri_tests as_it_is xs
kept_form a b xs p q n =
    normal_kept uri_tests as_it_is a b xs p q (ap (decoded uri_tests) (octets_triplet a b xs p q) ∙ uri-decoded (octet a b) (octets xs) n)

pub compared_kept : (a b : ℕ) (xs : List ℕ) → is_ascii_hexdigit a ≡ true → is_ascii_hexdigit b ≡ true → is_ascii_unreserved (octet a b) ≡ false
    → compared (37 ∷ a ∷ b ∷ xs) ≡ 37 ∷ to_ascii_uppercase a ∷ to_ascii_uppercase b ∷ compared xs
unfolding compared
compared_kept a b xs p q n = ap (normal uri_tests as_it_is) (mapped-triplet a b xs p q) ∙ kept_form a b (mapped xs) p q n

capital_stays : (n : ℕ) → n < 16 → to_ascii_uppercase (capital_hex n) ≡ capital_hex n
capital_stays n h = grind (arith, nat_tests)

past_kept : (x : ℕ) → 128 ≤ x → is_ascii_unreserved x ≡ false
unfolding is_ascii_unreserved
past_kept x h = grind (arith, nat_tests)

pub compared_past : (x : ℕ) (xs : List ℕ) → 128 ≤ x → x < 256 → compared (x ∷ xs) ≡ triplet x ++ compared xs
unfolding compared
compared_past x xs h l =
    let f = first_digit x l in
    let s = second_digit x in
    ap (normal uri_tests as_it_is) (mapped-high x xs (le-ltb x 128 h))
    ∙ kept_form (capital_hex (x / 16)) (capital_hex (x % 16)) (mapped xs) (capital_is_hex (x / 16) f) (capital_is_hex (x % 16) s)
    (ap is_ascii_unreserved (octet_of x l) ∙ past_kept x h)
    ∙ ap (λ z. 37 ∷ z ∷ to_ascii_uppercase (capital_hex (x % 16)) ∷ normal uri_tests as_it_is (mapped xs)) (capital_stays (x / 16) f)
    ∙ ap (λ z. 37 ∷ capital_hex (x / 16) ∷ z ∷ normal uri_tests as_it_is (mapped xs)) (capital_stays (x % 16) s)

-- ---- a stray `%`
-- what follows begins with no two digits
pub second_other : (a b : ℕ) (t : List ℕ) → is_ascii_hexdigit b ≡ false → two_digits (a ∷ b ∷ t) ≡ false
second_other a b t h = ap (λ v. is_ascii_hexdigit a && v) h ∙ and-false (is_ascii_hexdigit a)

no_digits_low : (a : ℕ) (xs : List ℕ) → two_digits (a ∷ xs) ≡ false → two_digits (a ∷ mapped xs) ≡ false
no_digits_low a [] h = refl
no_digits_low a (b ∷ xs) h =
    elim (nat_lt b 128) as (λ v. nat_lt b 128 ≡ v → two_digits (a ∷ mapped (b ∷ xs)) ≡ false) [
      | true ↦ λ e. ap (λ z. two_digits (a ∷ z)) (mapped-low b xs e) ∙ h
      | false ↦ λ e. ap (λ z. two_digits (a ∷ z)) (mapped-high b xs e)
          ∙ second_other a 37 (capital_hex (b / 16) ∷ capital_hex (b % 16) ∷ mapped xs) refl
    ] refl

no_digits : (xs : List ℕ) → two_digits xs ≡ false → two_digits (mapped xs) ≡ false
no_digits [] h = refl
no_digits (a ∷ xs) h =
    elim (nat_lt a 128) as (λ v. nat_lt a 128 ≡ v → two_digits (mapped (a ∷ xs)) ≡ false) [
      | true ↦ λ e. ap two_digits (mapped-low a xs e) ∙ no_digits_low a xs h
      | false ↦ λ e. ap two_digits (mapped-high a xs e) ∙ no_two 37 (capital_hex (a / 16) ∷ capital_hex (a % 16) ∷ mapped xs) refl
    ] refl

pub compared_stray : (xs : List ℕ) → two_digits xs ≡ false → compared (37 ∷ xs) ≡ 37 ∷ compared xs
unfolding compared
compared_stray xs h =
    let t = mapped xs in
    ap (normal uri_tests as_it_is) (mapped-low 37 xs refl)
    ∙ normal-by_bytes uri_tests as_it_is (37 ∷ t)
    ∙ ap (flat_map (written uri_tests as_it_is)) (units_stray t (no_digits xs h))
    ∙ ap (λ z. 37 ∷ z) (sym (normal-by_bytes uri_tests as_it_is t))

-- ---- prefixes
pub stays_low : (x : ℕ) → stays x ≡ true → x < 128
stays_low x h = grind (arith, nat_tests)

stays_plain : (x : ℕ) → stays x ≡ true → (x == 37) ≡ false
stays_plain x h = grind (arith, nat_tests)

pub low_stays : (x : ℕ) → x < 128 → (x == 37) ≡ false → stays x ≡ true
low_stays x l n = grind (arith, nat_tests)

compared_run : (t : List ℕ) → compared t ≡ take (run_of stays t) t ++ compared (drop (run_of stays t) t)
compared_run [] = refl
compared_run (x ∷ xs) =
    elim (stays x) as (λ b. stays x ≡ b → compared (x ∷ xs)
    ≡ take (cond b (suc (run_of stays xs)) 0) (x ∷ xs) ++ compared (drop (cond b (suc (run_of stays xs)) 0) (x ∷ xs))) [
      | true ↦ λ e. compared_low x xs (stays_low x e) (stays_plain x e) ∙ ap (λ l. x ∷ l) (compared_run xs)
      | false ↦ λ e. refl
    ] refl

run_some : (t : List ℕ) → 0 < length t → stays (get_or t 0 0) ≡ true → 0 < run_of stays t
run_some [] s h = absurd (omega arith)
run_some (x ∷ xs) s h = rw h (omega arith)

pub prefix_run : (t : List ℕ) (r : Bor (List ℕ)) → 0 < length t → stays (get_or t 0 0) ≡ true → r.now ≡ take (run_of stays t) t
    → IsPrefix t (Run r) (run_of stays t)
prefix_run t r s h e = record {
  text = compared_run t ∙ ap (λ z. z ++ compared (drop (run_of stays t) t)) (sym e);
  within = run_of_le stays t;
  some = run_some t s h;
  digits = tt;
}

pub prefix_past : (t : List ℕ) (a b : ℕ) → 0 < length t → 128 ≤ get_or t 0 0 → get_or t 0 0 < 256 → a ≡ capital_hex (get_or t 0 0 / 16)
    → b ≡ capital_hex (get_or t 0 0 % 16) → IsPrefix t (Triplet a b) 1
prefix_past [] a b s h l e d = absurd (omega arith)
prefix_past (x ∷ xs) a b s h l e d = record {
  text = compared_past x xs h l ∙ ap (λ z. 37 ∷ z ∷ capital_hex (x % 16) ∷ compared xs) (sym e)
      ∙ ap (λ z. 37 ∷ a ∷ z ∷ compared xs) (sym d);
  within = omega arith;
  some = omega arith;
  digits = (small a (x / 16) e (first_digit x l), small b (x % 16) d (second_digit x));
}
  where
    small : (a n : ℕ) → a ≡ capital_hex n → n < 16 → a < 128
    small a n e h = subst (λ z. z < 128) (sym e) (hex_below n h)

-- no triplet begins
pub prefix_stray : (t : List ℕ) → 0 < length t → get_or t 0 0 ≡ 37 → two_digits (drop 1 t) ≡ false → IsPrefix t (Char 37) 1
prefix_stray [] s e h = absurd (omega arith)
prefix_stray (x ∷ xs) s e h = subst (λ y. IsPrefix (y ∷ xs) (Char 37) 1) (sym e) (record {
  text = compared_stray xs h ∙ ap (λ z. z ++ compared xs) (sym (encode_ascii 37 (omega arith)));
  within = omega arith;
  some = omega arith;
  digits = tt;
})

pub prefix_decoded : (t : List ℕ) (c : ℕ) → 3 ≤ length t → get_or t 0 0 ≡ 37 → is_ascii_hexdigit (get_or t 1 0) ≡ true
    → is_ascii_hexdigit (get_or t 2 0) ≡ true → decoded uri_tests (octets t) ≡ Some c → IsPrefix t (Char c) 3
prefix_decoded [] c s e p q h = absurd (omega arith)
prefix_decoded (x ∷ []) c s e p q h = absurd (omega arith)
prefix_decoded (x ∷ a ∷ []) c s e p q h = absurd (omega arith)
prefix_decoded (x ∷ a ∷ b ∷ xs) c s e p q h = subst (λ y. IsPrefix (y ∷ a ∷ b ∷ xs) (Char c) 3) (sym e) (at
    (decodes (octet a b) (octets xs) c (ap (decoded uri_tests) (sym (octets_triplet a b xs p q))
    ∙ ap (λ y. decoded uri_tests (octets (y ∷ a ∷ b ∷ xs))) (sym e) ∙ h)))
  where
    at : Decodes (octet a b) c → IsPrefix (37 ∷ a ∷ b ∷ xs) (Char c) 3
    at d = record {
      text = compared_decoded a b xs p q d.free ∙ ap (λ z. encode_utf8 z ++ compared xs) d.same;
      within = omega arith;
      some = omega arith;
      digits = tt;
    }

pub prefix_kept : (t : List ℕ) → 3 ≤ length t → get_or t 0 0 ≡ 37 → is_ascii_hexdigit (get_or t 1 0) ≡ true
    → is_ascii_hexdigit (get_or t 2 0) ≡ true → decoded uri_tests (octets t) ≡ None
    → IsPrefix t (Triplet (to_ascii_uppercase (get_or t 1 0)) (to_ascii_uppercase (get_or t 2 0))) 3
prefix_kept [] s e p q h = absurd (omega arith)
prefix_kept (x ∷ []) s e p q h = absurd (omega arith)
prefix_kept (x ∷ a ∷ []) s e p q h = absurd (omega arith)
prefix_kept (x ∷ a ∷ b ∷ xs) s e p q h = subst (λ y. IsPrefix (y ∷ a ∷ b ∷ xs) (Triplet (to_ascii_uppercase a) (to_ascii_uppercase b)) 3) (sym
    e) (record {
      text = compared_kept a b xs p q (keeps (octet a b) (octets xs) (ap (decoded uri_tests) (sym (octets_triplet a b xs p q))
          ∙ ap (λ y. decoded uri_tests (octets (y ∷ a ∷ b ∷ xs))) (sym e) ∙ h));
      within = omega arith;
      some = omega arith;
      digits = (upper_digit a p, upper_digit b q);
    })

-- where no two digits follow
pub stray_short : (t : List ℕ) → length t < 3 → two_digits (drop 1 t) ≡ false
stray_short [] l = refl
stray_short (x ∷ []) l = refl
stray_short (x ∷ a ∷ []) l = refl
stray_short (x ∷ a ∷ b ∷ xs) l = absurd (omega arith)

pub stray_first : (t : List ℕ) → is_ascii_hexdigit (get_or t 1 0) ≡ false → two_digits (drop 1 t) ≡ false
stray_first [] h = refl
stray_first (x ∷ []) h = refl
stray_first (x ∷ a ∷ xs) h = no_two a xs h

pub stray_second : (t : List ℕ) → is_ascii_hexdigit (get_or t 2 0) ≡ false → two_digits (drop 1 t) ≡ false
stray_second [] h = refl
stray_second (x ∷ []) h = refl
stray_second (x ∷ a ∷ []) h = refl
stray_second (x ∷ a ∷ b ∷ xs) h = second_other a b xs h

-- ---- a part that stays
no_percent : ascii_test Query 37 ≡ false
unfolding is_ascii_query is_ascii_pchar is_ascii_reg_name is_ascii_unreserved is_sub_delim
no_percent = refl

pub compared_plain : (t : List ℕ) → drop (run_of (ascii_test Query) t) t ≡ [] → compared t ≡ t
compared_plain [] h = compared_nil
compared_plain (x ∷ t) h =
    elim (ascii_test Query x) as (λ b. ascii_test Query x ≡ b → drop (cond b (suc (run_of (ascii_test Query) t)) 0) (x ∷ t) ≡ []
    → compared (x ∷ t) ≡ x ∷ t) [
      | true ↦ λ e k. compared_low x t (ascii_test_below Query x e) (test_apart (ascii_test Query) 37 x no_percent e)
          ∙ ap (λ l. x ∷ l) (compared_plain t k)
      | false ↦ λ e k. cc
    ] refl h

-- ---- the text so far, and what is left
pub form_ends : (prior form t rest : List ℕ) → prior ++ compared t ≡ form ++ compared rest → length rest ≡ 0 → form ≡ prior ++ compared t
form_ends prior form t (x ∷ rest) h e = absurd (omega arith)
form_ends prior form t [] h e = sym (h ∙ ap (λ z. form ++ z) compared_nil ∙ append-nil form)

-- ---- a path, and a query after it
pub query_mark : (q : List ℕ) → compared (63 ∷ q) ≡ 63 ∷ compared q
query_mark q = compared_low 63 q (omega arith) refl

pub query_form : (p : List ℕ) (q : Option (List ℕ)) → compared p ++ compared (query_text q) ≡ compared (p ++ query_text q)
query_form p None = ap (λ z. compared p ++ z) compared_nil ∙ append-nil (compared p) ∙ ap compared (sym (append-nil p))
query_form p (Some q) = ap (λ z. compared p ++ z) (query_mark q) ∙ sym (compared_delimiter p q)
