-- A text with one byte changed, or triplets that are decoded.
use Rattle.iri_resolve.proofs.Common.{◌≡◌, ℕ, zero, suc, ◌+◌, ◌*◌, ◌<◌, Bool, true, false, cond, ◌&&◌, List, [], ◌∷◌, ◌++◌, Option, Some}
use Rattle.iri_resolve.proofs.Common.{None, length, refl, sym, ◌-◌, ◌≤◌, ◌∙◌, ap, subst, arith, length-append, take, drop, slice_index}
use Rattle.iri_resolve.proofs.Common.{slice_set, is_ascii_uppercase, to_ascii_lowercase, to_ascii_uppercase, encode_utf8, len_utf8, chars}
use Rattle.iri_resolve.proofs.Common.{Tests, octets, decoded, Spells, none, more, spelled, length-spelled, is_decoded, IsUtf8}
use Rattle.iri_resolve.proofs.Common.{length-encode, is_in_triplet, is_small_digit, with_small_letter, with_small_host_letter}
use Rattle.iri_resolve.proofs.Common.{with_capital_digit, with_character, with_decoded}
use Rattle.std.proofs.Common.{drop_of_length-le, take-append-drop, length-take-le, get_or-append-add}
use Rattle.iri_percent.specs.Units.{first_char}
use Rattle.std.proofs.lemmas.Str.{lead_after_ascii, IsUtf8-append}
use Rattle.iri_resolve.proofs.ChangeLaws.{some_triplets}
use Rattle.iri_resolve.proofs.ByteLaws.{cut_at}
use Rattle.iri_grammar.proofs.units.FirstUnits.{hex_is_ascii as digit_below}
use Rattle.iri_grammar.proofs.authorities.AuthorityTexts.{delimited-utf8}
use Rattle.iri_grammar.proofs.splits.CharBoundaries.{text_after_delimiter, text_before_delimiter}

-- an ASCII byte in the place of another
pub put-utf8 : (i : ℕ) (t : List ℕ) (y : ℕ) → i < length t → slice_index t i < 128 → y < 128 → IsUtf8 t → IsUtf8 (slice_set t i y)
put-utf8 i t y h l m u =
    let c = cut_at i t y h in
    let v = subst (λ z. IsUtf8 z) c.0 u in
    subst (λ z. IsUtf8 z) (sym c.1) (IsUtf8-append (take i t) (y ∷ drop (suc i) t) (text_before_delimiter (slice_index t i) (take i t) (drop (suc i) t) l v)
    (delimited-utf8 y (drop (suc i) t) m (text_after_delimiter (slice_index t i) (take i t) (drop (suc i) t) l v)))

pub no_letter : (i : ℕ) (t : List ℕ) → is_ascii_uppercase (slice_index t i) ≡ false → with_small_letter i t ≡ None
unfolding with_small_letter
no_letter i t h = rw h refl

pub letter : (i : ℕ) (t u : List ℕ) → is_ascii_uppercase (slice_index t i) ≡ true → u ≡ slice_set t i (to_ascii_lowercase (slice_index t i))
    → with_small_letter i t ≡ Some u
unfolding with_small_letter
letter i t u h e = ap (λ b. cond b (Some (slice_set t i (to_ascii_lowercase (slice_index t i)))) None) h ∙ ap Some (sym e)

pub no_digit : (i : ℕ) (t : List ℕ) → is_small_digit (slice_index t i) ≡ false → with_capital_digit i t ≡ None
unfolding with_capital_digit
no_digit i t h = rw h (elim (is_in_triplet i t) as (λ b. cond (b && false)
    (Some (slice_set t i (to_ascii_uppercase (slice_index t i)))) None ≡ None) [ true ↦ refl | false ↦ refl ])

pub digit_outside : (i : ℕ) (t : List ℕ) → is_in_triplet i t ≡ false → with_capital_digit i t ≡ None
unfolding with_capital_digit
digit_outside i t h = ap (λ b. cond (b && is_small_digit (slice_index t i))
    (Some (slice_set t i (to_ascii_uppercase (slice_index t i)))) None) h

pub digit : (i : ℕ) (t u : List ℕ) → is_small_digit (slice_index t i) ≡ true → is_in_triplet i t ≡ true
    → u ≡ slice_set t i (to_ascii_uppercase (slice_index t i)) → with_capital_digit i t ≡ Some u
unfolding with_capital_digit
digit i t u h k e =
    ap (λ b. cond (b && is_small_digit (slice_index t i)) (Some (slice_set t i (to_ascii_uppercase (slice_index t i)))) None) k
    ∙ ap (λ b. cond b (Some (slice_set t i (to_ascii_uppercase (slice_index t i)))) None) h
    ∙ ap Some (sym e)

-- ---- decoding
pub not_decoded : (s : Tests) (i : ℕ) (t : List ℕ) → decoded s (octets (drop i t)) ≡ None → with_decoded s i t ≡ None
unfolding with_decoded
not_decoded s i t h = ap (with_character i t) h

pub is_decoded_to : (s : Tests) (i : ℕ) (t u : List ℕ) (c : ℕ) → decoded s (octets (drop i t)) ≡ Some c
    → u ≡ take i t ++ (encode_utf8 c ++ drop (i + 3 * len_utf8 c) t) → with_decoded s i t ≡ Some u
unfolding with_decoded
is_decoded_to s i t u c h e = ap (with_character i t) h ∙ ap Some (sym e)

no_octets : (s : Tests) → decoded s (octets []) ≡ None
unfolding first_char chars
no_octets s = refl

pub after_end : (s : Tests) (i : ℕ) (t : List ℕ) → length t < i → decoded s (octets (drop i t)) ≡ None
after_end s i t h = ap (λ z. decoded s (octets z)) (drop_of_length-le t (omega arith)) ∙ no_octets s

-- where the triplets begin and end
at_start : (i : ℕ) (t : List ℕ) (y : ℕ) (r : List ℕ) → drop i t ≡ y ∷ r → (i < length t) × (slice_index t i ≡ y)
at_start zero [] y r e = cc
at_start zero (x ∷ xs) y r e = (omega arith, cc)
at_start (suc i) [] y r e = cc
at_start (suc i) (x ∷ xs) y r e = let k = at_start i xs y r e in let l = k.0 in (omega arith, k.1)

deeper : (n : ℕ) (x y z : ℕ) (xs : List ℕ) → 0 < n → slice_index xs (n - 1) < 128
    → slice_index (x ∷ y ∷ z ∷ xs) (suc (suc (suc n)) - 1) < 128
deeper n x y z xs l h = let e : suc (suc (suc n)) - 1 ≡ suc (suc (suc (n - 1))) = omega arith in
    subst (λ k. slice_index (x ∷ y ∷ z ∷ xs) k < 128) (sym e) h

last_digit : (sp os r : List ℕ) → Spells sp os → 0 < length os → slice_index (sp ++ r) (length sp - 1) < 128
last_digit sp os r none h = absurd (omega arith)
last_digit sp os r (more a b sp' os' p q k) h = at sp' os' k (λ l. last_digit sp' os' r k l)
  where
    at : (sp' os' : List ℕ) → Spells sp' os' → (0 < length os' → slice_index (sp' ++ r) (length sp' - 1) < 128)
        → slice_index (37 ∷ a ∷ b ∷ (sp' ++ r)) (suc (suc (suc (length sp'))) - 1) < 128
    at sp' os' none go = digit_below b q
    at sp' os' (more a' b' sp'' os'' p' q' k') go =
        deeper (length (37 ∷ a' ∷ b' ∷ sp'')) 37 a b ((37 ∷ a' ∷ b' ∷ sp'') ++ r) (omega arith) (go (omega arith))

-- where a character in triplets stands
pub record Place (i n : ℕ) (t : List ℕ) : Type 0 where
  pub inside : i < length t
  pub first : slice_index t i < 128
  pub within : i + n ≤ length t
  pub some : 0 < n
  pub last : slice_index t (i + n - 1) < 128

pub place : (s : Tests) (i : ℕ) (t : List ℕ) (c : ℕ) → decoded s (octets (drop i t)) ≡ Some c → Place i (3 * len_utf8 c) t
place s i t c e =
    let d = is_decoded s (octets (drop i t)) c e in
    let r = spelled (encode_utf8 c) d.0.rest (drop i t) d.0.split in
    let g = some_triplets c r.sp (encode_utf8 c) r.spells refl in
    let long : length r.sp ≡ 3 * len_utf8 c = length-spelled r.sp (encode_utf8 c) r.spells ∙ ap (λ n. 3 * n) (length-encode c) in
    let f = at_start i t 37 (g.rest ++ r.xs) (r.text ∙ ap (λ z. z ++ r.xs) g.text) in
    let whole : t ≡ take i t ++ (r.sp ++ r.xs) = sym (take-append-drop i t) ∙ ap (λ z. take i t ++ z) r.text in
    let prefix : length (take i t) ≡ i = length-take-le i t (omega (arith, f.0)) in
    let some : 0 < length r.sp = omega (arith, ap length g.text) in
    let bytes : 0 < length (encode_utf8 c) = omega (arith, some, length-spelled r.sp (encode_utf8 c) r.spells) in
    let at : i + 3 * len_utf8 c - 1 ≡ length (take i t) + (length r.sp - 1) = omega (arith, prefix, long, some) in
    let digit = last_digit r.sp (encode_utf8 c) r.xs r.spells bytes in
    let read : slice_index t (i + 3 * len_utf8 c - 1) ≡ slice_index (r.sp ++ r.xs) (length r.sp - 1) =
    ap (slice_index t) at ∙ ap (λ z. slice_index z (length (take i t) + (length r.sp - 1))) whole
    ∙ get_or-append-add (take i t) (r.sp ++ r.xs) (length r.sp - 1) 0 in
    record {
      inside = f.0;
      first = subst (λ x. x < 128) (sym f.1) (omega arith);
      within = omega (arith, ap length whole, length-append (take i t) (r.sp ++ r.xs), length-append r.sp r.xs, prefix, long);
      some = omega (arith, long, some);
      last = subst (λ x. x < 128) (sym read) digit;
    }

pub after_place : (i n : ℕ) (t : List ℕ) → IsUtf8 t → Place i n t → i + n < length t → 128 ≤ slice_index t (i + n)
    → 192 ≤ slice_index t (i + n)
after_place i n t u p l h =
    let some = p.some in
    let next : i + n - 1 + 1 ≡ i + n = omega arith in
    subst (λ k. 192 ≤ slice_index t k) next (lead_after_ascii t (i + n - 1) u p.last (omega arith)
    (subst (λ k. 128 ≤ slice_index t k) (sym next) h))

-- ---- letters of a host
pub letter_inside : (i : ℕ) (t : List ℕ) → is_in_triplet i t ≡ true → with_small_host_letter i t ≡ None
unfolding with_small_host_letter
letter_inside i t h = ap (λ b. cond b None (with_small_letter i t)) h

pub letter_outside : (i : ℕ) (t : List ℕ) → is_in_triplet i t ≡ false → with_small_host_letter i t ≡ with_small_letter i t
unfolding with_small_host_letter
letter_outside i t h = ap (λ b. cond b None (with_small_letter i t)) h

pub no_host_letter : (i : ℕ) (t : List ℕ) → is_ascii_uppercase (slice_index t i) ≡ false → with_small_host_letter i t ≡ None
unfolding with_small_host_letter
no_host_letter i t h = same (is_in_triplet i t) (with_small_letter i t) (no_letter i t h)
  where
    same : (b : Bool) (o : Option (List ℕ)) → o ≡ None → cond b None o ≡ None
    same true o e = refl
    same false o e = e
