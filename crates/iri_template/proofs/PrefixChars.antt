-- Whether a text is empty once it is encoded.
use Rattle.iri_template.proofs.Common.{◌≡◌, ℕ, zero, suc, cond, false, List, [], ◌∷◌, ◌++◌, take, refl, sym, ◌∙◌, ap}
use Rattle.iri_template.proofs.Common.{arith, ◌<◌, Bool, true, Option, None, Some, length, nat_le}
use Rattle.iri_template.proofs.Common.{length-append, ◌==◌, flat_map, encode_utf8, IsUtf8, chars, encode_utf8_all}
use Rattle.iri_template.proofs.Common.{len_utf8_bounds, nat_tests, Tests, unreserved, chars_of_empty}
use Rattle.iri_template.proofs.Common.{encoded_char, limited, shown_text, is_used_up}
use Rattle.std.proofs.lemmas.Str.{chars-append, encodes-chars, length-encode}
use Rattle.iri_percent.specs.Mapping.{triplets}

-- ---- characters
utf8_chars : (t : List ℕ) → IsUtf8 t → 0 < length t → 0 < length (chars t)
utf8_chars t u h = elim (chars t) as (λ cs. encode_utf8_all cs ≡ t → 0 < length cs) [
  | [] ↦ λ e. let z = ap length e in absurd (omega (arith, z, h))
  | c ∷ cs ↦ λ e. omega arith
] (encodes-chars t u)

-- those of a text that goes on after some of them
pub some_chars : (prefix rest t : List ℕ) → prefix ++ rest ≡ t → IsUtf8 prefix → 0 < length prefix → 0 < length (chars t)
some_chars prefix rest t e u h =
    let all : length (chars t) ≡ length (chars prefix ++ chars rest) = ap length (ap chars (sym e) ∙ chars-append prefix rest u) in
    omega (arith, all, length-append (chars prefix) (chars rest), utf8_chars prefix u h)

-- ---- encoded
some_triplets : (bs : List ℕ) → 0 < length bs → 0 < length (triplets bs)
some_triplets [] h = absurd (omega arith)
some_triplets (b ∷ bs) h = omega arith

pub some_encoded : (kept : ℕ → Bool) (c : ℕ) → 0 < length (encoded_char kept c)
some_encoded kept c =
    let some : 0 < length (encode_utf8 c) = omega (arith, length-encode c, len_utf8_bounds c) in
    elim (kept c) as (λ b. 0 < length (cond b (encode_utf8 c) (triplets (encode_utf8 c)))) [ true ↦ some | false ↦ some_triplets (encode_utf8 c) some ]

some_more : (kept : ℕ → Bool) (c : ℕ) (cs : List ℕ) → (length (flat_map (encoded_char kept) (c ∷ cs)) == 0) ≡ false
some_more kept c cs =
    let some = some_encoded kept c in
    let all = length-append (encoded_char kept c) (flat_map (encoded_char kept) cs) in
    grind (arith, nat_tests)

some_limited : (kept : ℕ → Bool) (count : Option ℕ) (cs : List ℕ) → is_used_up count ≡ false → 0 < length cs
    → (length (flat_map (encoded_char kept) (limited count cs)) == 0) ≡ false
some_limited kept count [] h k = absurd (omega arith)
some_limited kept None (c ∷ cs) h k = some_more kept c cs
some_limited kept (Some zero) (c ∷ cs) h k = cc
some_limited kept (Some (suc n)) (c ∷ cs) h k = some_more kept c (take n cs)

none_limited : (kept : ℕ → Bool) (count : Option ℕ) (cs : List ℕ) → cs ≡ []
    → (length (flat_map (encoded_char kept) (limited count cs)) == 0) ≡ true
none_limited kept None [] e = refl
none_limited kept None (c ∷ cs) e = cc
none_limited kept (Some zero) cs e = refl
none_limited kept (Some (suc n)) [] e = refl
none_limited kept (Some (suc n)) (c ∷ cs) e = cc

pub none_of_none : (s : Tests) (count : Option ℕ) (t : List ℕ) → is_used_up count ≡ true → (length (shown_text s false count t) == 0) ≡ true
none_of_none s None t h = cc
none_of_none s (Some zero) t h = refl
none_of_none s (Some (suc n)) t h = cc

-- the text is empty where its value is
pub value_decides : (s : Tests) (count : Option ℕ) (t : List ℕ) (b : Bool) → is_used_up count ≡ false → b ≡ nat_le (length t) 0
    → (b ≡ false → 0 < length (chars t)) → b ≡ (length (shown_text s false count t) == 0)
value_decides s count t true h e some =
    let none : length t ≡ 0 = grind (arith, nat_tests) in
    sym (none_limited (unreserved s) count (chars t) (chars_of_empty t none))
value_decides s count t false h e some = sym (some_limited (unreserved s) count (chars t) h (some refl))
