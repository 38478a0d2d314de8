-- The mapping and triplet normal form, and what the mapping does.
use Rattle.iri_percent.proofs.Common.{◌≡◌, ℕ, zero, suc, ◌<◌, ◌≤◌, Bool, true, false, cond, List, [], ◌∷◌, ◌++◌, Option, Some, None, length}
use Rattle.iri_percent.proofs.Common.{map, refl, sym, ◌∙◌, ap, subst, arith, length-append, ltb-true, ltb-false, ◌==◌, ◌/◌, ◌%◌, nat_lt}
use Rattle.iri_percent.proofs.Common.{list_all, is_ascii_hexdigit, to_ascii_uppercase, encode, encodes, scalar, scalars, chars, IsAscii}
use Rattle.iri_percent.proofs.Common.{IsUtf8, encode_ascii, encodes-chars, scalars-chars, nat_tests, lt-ltb, IsAscii-cons, IsAscii-nil}
use Rattle.iri_percent.proofs.Common.{Tests, IsSpec, uri_tests, unreserved, is_ascii_unreserved, both, text_over, octet, octets, normal}
use Rattle.iri_percent.proofs.Common.{decoded, triplet, mapped, triplets, flat_map}
use Rattle.std.proofs.lemmas.Str.{IsAscii-append}
use Rattle.std.proofs.Math.Bool.{or-false}
use Rattle.iri_percent.proofs.forms.Classes.{IsText, ended, letter, escape, text-from_over, after_spelled}
use Rattle.iri_percent.proofs.units.AtStart.{Spells, none, more, spelled, length-spelled, octets_triplet, encode_bytes}
use Rattle.iri_percent.proofs.forms.ByUnits.{normal_nil, normal_plain, normal_plains, normal_char, normal_decoded, normal_kept}
use Rattle.iri_percent.proofs.forms.Cases.{encode_case, is_decoded}
use Rattle.iri_percent.proofs.forms.Stability.{IsCase, encode_percent, upper_hex}
use Rattle.iri_percent.proofs.characters.Spellings.{unreserved_low, ascii_decoded}
use Rattle.iri_percent.proofs.coding.SpelledTriplets.{hex_below}
use Rattle.iri_percent.specs.Mapping.{mapped_char}
use Rattle.iri_percent.proofs.mapping.Texts.{mapped-low, mapped-high, mapped-append, mapped-triplet, mapped-spelled, mapped-spells, is_high}
use Rattle.iri_percent.proofs.mapping.Texts.{high_past, high_small, first_digit, second_digit, encode-high, uri-spec}
pub use Rattle.iri_percent.proofs.characters.Spellings.{unreserved_low as unreserved_ascii}
pub use Rattle.iri_percent.proofs.characters.HexDigits.{value_small}
use Rattle.iri_percent.proofs.characters.HexDigits.{capital_triplet}

-- ---- triplets in capital
-- triplets of bytes past ASCII, in capital
upper-spelled : (sp os : List ℕ) → Spells sp os → list_all is_high os ≡ true → map to_ascii_uppercase sp ≡ mapped os
upper-spelled sp os none h = refl
upper-spelled sp os (more a b sp' os' p q k) h =
    let m = both (is_high (octet a b)) (list_all is_high os') h in
    ap (λ z. 37 ∷ to_ascii_uppercase a ∷ to_ascii_uppercase b ∷ z) (upper-spelled sp' os' k m.1)
    ∙ ap (λ z. z ++ mapped os') (sym (capital_triplet a b p q))
    ∙ sym (mapped-high (octet a b) os' (high_past (octet a b) m.0))

-- ---- what is decoded
past_reserved : (c : ℕ) → nat_lt c 128 ≡ false → unreserved uri_tests c ≡ false
unfolding unreserved is_ascii_unreserved
past_reserved c h = grind (arith, nat_tests)

-- an ASCII character is unreserved under each spec alike
ascii_unreserved : (s : Tests) (c : ℕ) → IsSpec s → c < 128 → unreserved s c ≡ is_ascii_unreserved c
unfolding unreserved
ascii_unreserved s c k l = rw (k.ucs_ascii c l) (or-false (is_ascii_unreserved c))

-- an octet that is an unreserved ASCII character is decoded
pub ascii-decoded : (s : Tests) (o : ℕ) (os : List ℕ) → is_ascii_unreserved o ≡ true → decoded s (o ∷ os) ≡ Some o
ascii-decoded s o os h = ascii_decoded s o (o ∷ os) os refl h

-- under URIs, the first octet alone says what is decoded
pub uri-decoded : (o : ℕ) (os : List ℕ) → is_ascii_unreserved o ≡ false → decoded uri_tests (o ∷ os) ≡ None
unfolding unreserved
uri-decoded o os n = at (decoded uri_tests (o ∷ os)) refl
  where
    at : (v : Option ℕ) → decoded uri_tests (o ∷ os) ≡ v → v ≡ None
    at None e = refl
    at (Some c) e =
        let d = is_decoded uri_tests (o ∷ os) c e in
        let free : is_ascii_unreserved c ≡ true = sym (or-false (is_ascii_unreserved c)) ∙ d.1 in
        let w : o ∷ os ≡ c ∷ d.0.rest = d.0.split ∙ ap (λ z. z ++ d.0.rest) (encode_ascii c (unreserved_low c free)) in
        let same : o ≡ c = cc in
        let no : true ≡ false = sym free ∙ ap is_ascii_unreserved (sym same) ∙ n in
        cc

-- where no unreserved character begins, none begins under URIs
none-decoded : (s : Tests) (o : ℕ) (os qs : List ℕ) → decoded s (o ∷ os) ≡ None → decoded uri_tests (o ∷ qs) ≡ None
none-decoded s o os qs h =
    elim (is_ascii_unreserved o) as (λ b. is_ascii_unreserved o ≡ b
    → decoded uri_tests (o ∷ qs) ≡ None) [ true ↦ λ e. let yes' = ascii-decoded s o os e in cc | false ↦ λ e. uri-decoded o qs e ] refl

-- ---- the triplet normal form
abbrev Maps : Tests → (ℕ → ℕ) → List ℕ → Type 0
Maps s f t = mapped (normal s f t) ≡ normal uri_tests f (mapped t)

map_past : (f : ℕ → ℕ) (c : ℕ) → IsCase f → nat_lt c 128 ≡ false → map f (encode c) ≡ encode c
map_past f c i h = encode_case f c i ∙ ap encode (i.past c (ltb-false c 128 h))

at_letter : (s : Tests) (f : ℕ → ℕ) (c : ℕ) (t : List ℕ) → IsCase f → scalar c ≡ true → (c == 37) ≡ false → Maps s f t
    → Maps s f (encode c ++ t)
at_letter s f c t i h n rest =
    elim (nat_lt c 128) as (λ b. nat_lt c 128 ≡ b → Maps s f (encode c ++ t)) [
      | true ↦ λ e.
          let l = ltb-true c 128 e in
          let below : nat_lt (f c) 128 ≡ true = lt-ltb (f c) 128 (i.below c l) in
          subst (λ z. Maps s f (z ++ t)) (sym (encode_ascii c l))
          (ap mapped (normal_plain s f c t n) ∙ mapped-low (f c) (normal s f t) below ∙ ap (λ z. f c ∷ z) rest
          ∙ sym (normal_plain uri_tests f c (mapped t) n) ∙ ap (normal uri_tests f) (sym (mapped-low c t e)))
      | false ↦ λ e.
          let high = encode-high c h e in
          let spell = mapped-spells (encode c) high in
          ap mapped (normal_plains s f (encode c) t (encode_percent c n) ∙ ap (λ z. z ++ normal s f t) (map_past f c i e))
          ∙ mapped-append (encode c) (normal s f t)
          ∙ ap (λ z. mapped (encode c) ++ z) rest
          ∙ ap (λ z. z ++ normal uri_tests f (mapped t)) (sym (upper-spelled (mapped (encode c)) (encode c) spell high))
          ∙ ap (λ b. cond b (map f (encode c)) (map to_ascii_uppercase (mapped (encode c))) ++ normal uri_tests f (mapped t))
          (sym (past_reserved c e))
          ∙ sym (normal_char uri_tests f c (mapped (encode c)) (mapped t) h spell)
          ∙ ap (normal uri_tests f) (sym (mapped-append (encode c) t))
    ] refl

at_kept : (s : Tests) (f : ℕ → ℕ) (a b : ℕ) (t : List ℕ) → is_ascii_hexdigit a ≡ true → is_ascii_hexdigit b ≡ true
    → decoded s (octets (37 ∷ a ∷ b ∷ t)) ≡ None → Maps s f t → Maps s f (37 ∷ a ∷ b ∷ t)
at_kept s f a b t p q e rest =
    let A = to_ascii_uppercase a in
    let B = to_ascii_uppercase b in
    let kept : decoded uri_tests (octets (37 ∷ a ∷ b ∷ mapped t)) ≡ None =
    ap (decoded uri_tests) (octets_triplet a b (mapped t) p q)
    ∙ none-decoded s (octet a b) (octets t) (octets (mapped t)) (ap (decoded s) (sym (octets_triplet a b t p q)) ∙ e) in
    ap mapped (normal_kept s f a b t p q e)
    ∙ mapped-triplet A B (normal s f t) (upper_hex a p) (upper_hex b q)
    ∙ ap (λ z. 37 ∷ A ∷ B ∷ z) rest
    ∙ sym (normal_kept uri_tests f a b (mapped t) p q kept)
    ∙ ap (normal uri_tests f) (sym (mapped-triplet a b t p q))

at_decoded : (s : Tests) (f : ℕ → ℕ) (c : ℕ) (sp t : List ℕ) → IsSpec s → IsCase f → scalar c ≡ true → unreserved s c ≡ true
    → Spells sp (encode c) → Maps s f t → Maps s f (sp ++ t)
at_decoded s f c sp t k i h u j rest =
    let right : normal uri_tests f (mapped (sp ++ t))
    ≡ cond (unreserved uri_tests c) (map f (encode c)) (map to_ascii_uppercase sp) ++ normal uri_tests f (mapped t) =
    ap (normal uri_tests f) (mapped-spelled sp (encode c) t j) ∙ normal_char uri_tests f c sp (mapped t) h j in
    let left : mapped (normal s f (sp ++ t)) ≡ mapped (map f (encode c)) ++ normal uri_tests f (mapped t) =
    ap mapped (normal_decoded s f c sp t h u j) ∙ mapped-append (map f (encode c)) (normal s f t)
    ∙ ap (λ z. mapped (map f (encode c)) ++ z) rest in
    let same : mapped (map f (encode c)) ≡ cond (unreserved uri_tests c) (map f (encode c)) (map to_ascii_uppercase sp) =
    elim (nat_lt c 128) as (λ b. nat_lt c 128 ≡ b → mapped (map f (encode c))
    ≡ cond (unreserved uri_tests c) (map f (encode c)) (map to_ascii_uppercase sp)) [
      | true ↦ λ e.
          let l = ltb-true c 128 e in
          let free : unreserved uri_tests c ≡ true = ascii_unreserved uri_tests c uri-spec l ∙ sym (ascii_unreserved s c k l) ∙ u in
          rw (free, encode_ascii c l) (mapped-low (f c) [] (lt-ltb (f c) 128 (i.below c l)))
      | false ↦ λ e. rw (past_reserved c e, map_past f c i e) (sym (upper-spelled sp (encode c) j (encode-high c h e)))
    ] refl in
    left ∙ ap (λ z. z ++ normal uri_tests f (mapped t)) same ∙ sym right

pub some_bytes : (c : ℕ) → 0 < length (encode c)
some_bytes c = let b = encode_bytes c in omega (arith, ap length b.split)

maps_within : (n : ℕ) (s : Tests) (f : ℕ → ℕ) (p : ℕ → Bool) (t : List ℕ) → IsSpec s → IsCase f → length t ≤ n → IsText p t → Maps s f t
maps_within n s f p t k i l ended = ap mapped (normal_nil s f) ∙ sym (normal_nil uri_tests f)
maps_within zero s f p t k i l (letter c t' h q m r) = absurd (omega (arith, l, some_bytes c, length-append (encode c) t'))
maps_within (suc n) s f p t k i l (letter c t' h q m r) =
    at_letter s f c t' i h m (maps_within n s f p t' k i (omega (arith, l, some_bytes c, length-append (encode c) t')) r)
maps_within zero s f p t k i l (escape a b t' ha hb r) = absurd (omega arith)
maps_within (suc n) s f p t k i l (escape a b t' ha hb r) =
    let rest = maps_within n s f p t' k i (omega arith) r in
    at (decoded s (octets (37 ∷ a ∷ b ∷ t'))) refl rest (λ x short j. maps_within n s f p x k i short j)
  where
    at : (o : Option ℕ) → decoded s (octets (37 ∷ a ∷ b ∷ t')) ≡ o → Maps s f t' → ((x : List ℕ) → length x ≤ n → IsText p x → Maps s f x)
        → Maps s f (37 ∷ a ∷ b ∷ t')
    at None e rest go = at_kept s f a b t' ha hb e rest
    at (Some c) e rest go =
        let d = is_decoded s (octets (37 ∷ a ∷ b ∷ t')) c e in
        let g = spelled (encode c) d.0.rest (37 ∷ a ∷ b ∷ t') d.0.split in
        let all : IsText p (g.sp ++ g.xs) = subst (λ x. IsText p x) g.text (escape a b t' ha hb r) in
        let short : length g.xs ≤ n = omega (
          arith,
          l,
          ap length g.text,
          length-append g.sp g.xs,
          length-spelled g.sp (encode c) g.spells,
          some_bytes c,
        ) in
        subst (λ z. Maps s f z) (sym g.text) (at_decoded s f c g.sp g.xs k i d.0.is_scalar d.1 g.spells
        (go g.xs short (after_spelled p g.sp (encode c) g.xs g.spells all)))

-- mapping commutes with triplet normal form
pub mapped-normal : (s : Tests) (f : ℕ → ℕ) (p : ℕ → Bool) (t : List ℕ) → IsSpec s → IsCase f → p 37 ≡ false → text_over p t ≡ true
    → mapped (normal s f t) ≡ normal uri_tests f (mapped t)
mapped-normal s f p t k i n h = maps_within (length t) s f p t k i (omega arith) (text-from_over p t n h)

-- the same of a text that is known by its bytes
pub mapped-normal_text : (s : Tests) (f : ℕ → ℕ) (p : ℕ → Bool) (t : List ℕ) → IsSpec s → IsCase f → IsText p t
    → mapped (normal s f t) ≡ normal uri_tests f (mapped t)
mapped-normal_text s f p t k i h = maps_within (length t) s f p t k i (omega arith) h

-- ---- what the mapping does
-- a mapped text is in ASCII
triplet-ascii : (x : ℕ) → x < 256 → IsAscii (triplet x)
triplet-ascii x h zero = omega arith
triplet-ascii x h (suc zero) = hex_below (x / 16) (first_digit x h)
triplet-ascii x h (suc (suc zero)) = hex_below (x % 16) (second_digit x)
triplet-ascii x h (suc (suc (suc i))) = omega arith

high-ascii : (os : List ℕ) → list_all is_high os ≡ true → IsAscii (mapped os)
high-ascii [] h = IsAscii-nil
high-ascii (x ∷ xs) h =
    let k = both (is_high x) (list_all is_high xs) h in
    subst IsAscii (sym (mapped-high x xs (high_past x k.0)))
    (IsAscii-append (triplet x) (mapped xs) (triplet-ascii x (high_small x k.0)) (high-ascii xs k.1))

char-ascii : (c : ℕ) → scalar c ≡ true → IsAscii (mapped (encode c))
char-ascii c h =
    elim (nat_lt c 128) as (λ b. nat_lt c 128 ≡ b → IsAscii (mapped (encode c))) [
      | true ↦ λ e.
          let l = ltb-true c 128 e in
          subst IsAscii (sym (ap mapped (encode_ascii c l) ∙ mapped-low c [] e)) (IsAscii-cons c [] l IsAscii-nil)
      | false ↦ λ e. high-ascii (encode c) (encode-high c h e)
    ] refl

chars-ascii : (cs : List ℕ) → scalars cs ≡ true → IsAscii (mapped (encodes cs))
chars-ascii [] h = IsAscii-nil
chars-ascii (c ∷ cs) h =
    let k = both (scalar c) (scalars cs) h in
    subst IsAscii (sym (mapped-append (encode c) (encodes cs)))
    (IsAscii-append (mapped (encode c)) (mapped (encodes cs)) (char-ascii c k.0) (chars-ascii cs k.1))

pub mapped-in_ascii : (t : List ℕ) → IsUtf8 t → IsAscii (mapped t)
mapped-in_ascii t u = subst (λ z. IsAscii (mapped z)) (encodes-chars t u) (chars-ascii (chars t) (scalars-chars t u))

-- character by character
high-triplets : (os : List ℕ) → list_all is_high os ≡ true → mapped os ≡ triplets os
high-triplets [] h = refl
high-triplets (x ∷ xs) h = let k = both (is_high x) (list_all is_high xs) h in
    mapped-high x xs (high_past x k.0) ∙ ap (λ z. triplet x ++ z) (high-triplets xs k.1)

mapped-encoded : (c : ℕ) → scalar c ≡ true → mapped (encode c) ≡ mapped_char c
mapped-encoded c h =
    elim (nat_lt c 128) as (λ b. nat_lt c 128 ≡ b → mapped (encode c) ≡ cond b (c ∷ []) (triplets (encode c))) [
      | true ↦ λ e. ap mapped (encode_ascii c (ltb-true c 128 e)) ∙ mapped-low c [] e
      | false ↦ λ e. high-triplets (encode c) (encode-high c h e)
    ] refl

mapped-encodes : (cs : List ℕ) → scalars cs ≡ true → mapped (encodes cs) ≡ flat_map mapped_char cs
mapped-encodes [] h = refl
mapped-encodes (c ∷ cs) h =
    let k = both (scalar c) (scalars cs) h in
    mapped-append (encode c) (encodes cs) ∙ ap (λ z. z ++ mapped (encodes cs)) (mapped-encoded c k.0)
    ∙ ap (λ z. mapped_char c ++ z) (mapped-encodes cs k.1)

pub mapped-by_chars : (t : List ℕ) → IsUtf8 t → mapped t ≡ flat_map mapped_char (chars t)
mapped-by_chars t u = ap mapped (sym (encodes-chars t u)) ∙ mapped-encodes (chars t) (scalars-chars t u)

-- what the law of mapped texts says
pub ruleset mapped_texts = (mapped-append, mapped-in_ascii, mapped-by_chars)
