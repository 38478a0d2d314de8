-- Decoding undoes encoding.
use Rattle.iri_percent.proofs.Common.{◌≡◌, ℕ, ◌<◌, Bool, true, false, cond, ◌&&◌, List, [], ◌∷◌, ◌++◌, refl, ◌∙◌, ap, arith, ltb-true, ◌==◌}
use Rattle.iri_percent.proofs.Common.{◌/◌, ◌%◌, nat_lt, not, flat_map, list_all, chars, IsUtf8, encode, encodes, scalar, scalars}
use Rattle.iri_percent.proofs.Common.{encode_ascii, encodes-chars, scalars-chars, nat_tests, Tests, IsSpec, both, capital_hex, triplets}
use Rattle.iri_percent.proofs.Common.{keeps, encoded, encoded_char, decoding, class_has_no_percent}
use Rattle.iri_percent.proofs.mapping.Texts.{is_high, encode-high, high_small, octet_of, capital_is_hex, first_digit, second_digit}
use Rattle.iri_percent.proofs.forms.Stability.{encode_percent}
use Rattle.iri_percent.proofs.forms.Classes.{class_percent}
use Rattle.iri_percent.specs.declared.context.Context.{Context}
use Rattle.iri_percent.specs.declared.context.Context.TheVariants.{RegName, UserOrPassword, PathSegment, Path, Query, Fragment, Unreserved}
use Rattle.iri_percent.specs.declared.context.Context.TheVariants.{Any}
use Rattle.iri_percent.proofs.coding.Fragments.{decoding-triplet, decoding-plains}
use Rattle.iri_grammar.specs.declared.class.Class.TheVariants as C

-- `%` is never kept
pub keeps_no_percent : (s : Tests) → IsSpec s → (k : Context) → keeps s k 37 ≡ false
keeps_no_percent s l RegName = class_has_no_percent s l C.RegName
keeps_no_percent s l UserOrPassword = ap (λ v. v && not (37 == 58)) (class_has_no_percent s l C.Userinfo)
keeps_no_percent s l PathSegment = class_has_no_percent s l C.Pchar
keeps_no_percent s l Path = class_has_no_percent s l C.Path
keeps_no_percent s l Query = class_has_no_percent s l C.Query
keeps_no_percent s l Fragment = class_has_no_percent s l C.Fragment
keeps_no_percent s l Unreserved = class_has_no_percent s l C.Unreserved
keeps_no_percent s l Any = class_has_no_percent s l C.Any

abbrev is_octet : ℕ → Bool
is_octet x = nat_lt x 256

decoding-triplets : (os xs : List ℕ) → list_all is_octet os ≡ true → decoding (triplets os ++ xs) ≡ os ++ decoding xs
decoding-triplets [] xs h = refl
decoding-triplets (o ∷ os) xs h =
    let k = both (is_octet o) (list_all is_octet os) h in
    let small : o < 256 = ltb-true o 256 k.0 in
    decoding-triplet (capital_hex (o / 16)) (capital_hex (o % 16)) (triplets os ++ xs) (capital_is_hex (o / 16) (first_digit o small))
    (capital_is_hex (o % 16) (second_digit o))
    ∙ ap (λ x. x ∷ decoding (triplets os ++ xs)) (octet_of o small)
    ∙ ap (λ l. o ∷ l) (decoding-triplets os xs k.1)

high_octets : (os : List ℕ) → list_all is_high os ≡ true → list_all is_octet os ≡ true
high_octets [] h = refl
high_octets (o ∷ os) h = let k = both (is_high o) (list_all is_high os) h in rw (octet o (high_small o k.0)) (high_octets os k.1)
  where
    octet : (x : ℕ) → x < 256 → nat_lt x 256 ≡ true
    octet x h = grind (arith, nat_tests)

char_octets : (c : ℕ) → scalar c ≡ true → list_all is_octet (encode c) ≡ true
char_octets c h =
    elim (nat_lt c 128) as (λ v. nat_lt c 128 ≡ v → list_all is_octet (encode c) ≡ true) [
      | true ↦ λ e. ap (list_all is_octet) (encode_ascii c (ltb-true c 128 e)) ∙ one c (ltb-true c 128 e)
      | false ↦ λ e. high_octets (encode c) (encode-high c h e)
    ] refl
  where
    one : (x : ℕ) → x < 128 → (nat_lt x 256 && true) ≡ true
    one x h = grind (arith, nat_tests)

decoding-char : (p : ℕ → Bool) (c : ℕ) (xs : List ℕ) → p 37 ≡ false → scalar c ≡ true
    → decoding (encoded_char p c ++ xs) ≡ encode c ++ decoding xs
decoding-char p c xs n h =
    elim (p c) as (λ v. p c ≡ v → decoding (cond v (encode c) (triplets (encode c)) ++ xs) ≡ encode c ++ decoding xs) [
      | true ↦ λ e. decoding-plains (encode c) xs (encode_percent c (class_percent p c n e))
      | false ↦ λ e. decoding-triplets (encode c) xs (char_octets c h)
    ] refl

decoding-chars : (p : ℕ → Bool) → p 37 ≡ false → (cs : List ℕ) → scalars cs ≡ true → decoding (flat_map (encoded_char p) cs) ≡ encodes cs
unfolding decoding
decoding-chars p n [] h = refl
decoding-chars p n (c ∷ cs) h =
    let k = both (scalar c) (scalars cs) h in
    decoding-char p c (flat_map (encoded_char p) cs) n k.0 ∙ ap (λ l. encode c ++ l) (decoding-chars p n cs k.1)

pub decoding-encoded : (p : ℕ → Bool) → p 37 ≡ false → (t : List ℕ) → IsUtf8 t → decoding (encoded p t) ≡ t
unfolding encoded
decoding-encoded p n t u = decoding-chars p n (chars t) (scalars-chars t u) ∙ encodes-chars t u

pub decoded_again : (s : Tests) (k : Context) (t : List ℕ) → IsSpec s → IsUtf8 t → decoding (encoded (keeps s k) t) ≡ t
decoded_again s k t l u = decoding-encoded (keeps s k) (keeps_no_percent s l k) t u
