-- The first unit of a text over a class, and a run of ASCII characters at its start.
use Rattle.iri_grammar.proofs.Common.{◌≡◌, ℕ, suc, ◌<◌, ◌≤◌, ◌≢◌, Bool, true, false, cond, ◌&&◌, List, [], ◌∷◌, ◌++◌, length, drop, refl}
use Rattle.iri_grammar.proofs.Common.{sym, ◌∙◌, ap, subst, inl, inr, arith, length-append, ◌==◌, is_ascii_hexdigit, encode_utf8, chars}
use Rattle.iri_grammar.proofs.Common.{IsUtf8, cases_lt, cases_eq, both, eqb-true, nat_tests, is_utf8-from_IsUtf8, and-false, tail, over}
use Rattle.iri_grammar.proofs.Common.{over_from, text_over, run_of, is_empty, begins_with_triplet, HasNoUnit}
use lib.Utf8.{encodes}
use Rattle.std.proofs.lemmas.Bool.{and_left, and_right}
use Rattle.std.proofs.lemmas.Str.{chars_past_char, chars-nil, chars_from_encodes, encode_ascii, IsUtf8-past_char, byte_from_char}
use Rattle.std.proofs.lemmas.Str.{encodes-chars, chars-append, length-encode, len_utf8_bounds}
use Rattle.std.proofs.Math.Bool.{and_assoc}
use Rattle.iri_grammar.specs.inside.Runs.{begins_with_digit, first_passes}

-- an ASCII byte is a character
pub ascii_prefix : (b : ℕ) (bs : List ℕ) → b < 128 → b ∷ bs ≡ encode_utf8 b ++ bs
ascii_prefix b bs h = sym (ap (λ l. l ++ bs) (encode_ascii b h))

pub chars_ascii : (b : ℕ) (bs : List ℕ) → IsUtf8 (b ∷ bs) → b < 128 → chars (b ∷ bs) ≡ b ∷ chars bs
chars_ascii b bs u h = chars_past_char (b ∷ bs) bs b u (ascii_prefix b bs h)

pub text_after_ascii : (b : ℕ) (bs : List ℕ) → IsUtf8 (b ∷ bs) → b < 128 → IsUtf8 bs
text_after_ascii b bs u h = IsUtf8-past_char (b ∷ bs) bs b u (ascii_prefix b bs h)

pub hex_is_ascii : (x : ℕ) → is_ascii_hexdigit x ≡ true → x < 128
hex_is_ascii x h = grind (arith, nat_tests)

pub past_hex : (x : ℕ) → 128 ≤ x → is_ascii_hexdigit x ≡ false
past_hex x h = grind (arith, nat_tests)

-- where a hex digit is due
past_digit : (p : ℕ → Bool) (n : ℕ) (cs xs : List ℕ) (x : ℕ) → encodes cs ≡ x ∷ xs → 128 ≤ x → over_from p (suc n) cs ≡ false
unfolding over_from
past_digit p n [] xs x e h = refl
past_digit p n (d ∷ ds) xs x e h =
    elim (cases_lt d 128) [
      | inl lt ↦ absurd (omega (arith, byte_from_char (x ∷ xs) (encodes ds) d (sym e) lt))
      | inr ge ↦ rw (past_hex d ge) refl
    ]

digit_step : (p : ℕ → Bool) (n : ℕ) (t : List ℕ) → IsUtf8 t
    → over_from p (suc n) (chars t) ≡ (begins_with_digit t && over_from p n (chars (tail t)))
unfolding over_from
digit_step p n [] u = rw chars-nil refl
digit_step p n (x ∷ xs) u =
    elim (cases_lt x 128) [
      | inl lt ↦ rw (chars_ascii x xs u lt) refl
      | inr ge ↦ rw (past_hex x ge) (ap (over_from p (suc n)) (sym (chars_from_encodes u.0 (x ∷ xs) u u.1.1))
          ∙ past_digit p n u.0 xs x u.1.1 ge)
    ]

-- what follows a hex digit
text_after_digit : (t : List ℕ) → IsUtf8 t → begins_with_digit t ≡ true → IsUtf8 (tail t)
text_after_digit [] u h = u
text_after_digit (x ∷ xs) u h = text_after_ascii x xs u (hex_is_ascii x h)

percent_step : (p : ℕ → Bool) (t : List ℕ) → IsUtf8 (37 ∷ t)
    → over p (chars (37 ∷ t)) ≡ (begins_with_digit t && (begins_with_digit (tail t) && over p (chars (tail (tail t)))))
unfolding over_from
percent_step p t u =
    let ut = text_after_ascii 37 t u (omega arith) in
    let first : over p (chars (37 ∷ t)) ≡ over_from p 2 (chars t) = rw (chars_ascii 37 t u (omega arith)) refl in
    first ∙ (digit_step p 1 t ut ∙ second ut)
  where
    second : IsUtf8 t → (begins_with_digit t && over_from p 1 (chars (tail t)))
        ≡ (begins_with_digit t && (begins_with_digit (tail t) && over p (chars (tail (tail t)))))
    second ut =
        elim (begins_with_digit t) as (λ b. begins_with_digit t ≡ b
        → (b && over_from p 1 (chars (tail t))) ≡ (b && (begins_with_digit (tail t) && over p (chars (tail (tail t)))))) [
          | true ↦ λ e. digit_step p 0 (tail t) (text_after_digit t ut e)
          | false ↦ λ _. refl
        ] refl

-- a triplet at the start
pub triplet_past : (p : ℕ → Bool) (t : List ℕ) → IsUtf8 t → begins_with_triplet t ≡ true → over p (chars (drop 3 t)) ≡ over p (chars t)
triplet_past p [] u h = cc
triplet_past p (x ∷ []) u h = let no = both (x == 37) false h in cc
triplet_past p (x ∷ a ∷ []) u h = let no = both (x == 37) (is_ascii_hexdigit a && false) h in
    let more = both (is_ascii_hexdigit a) false no.1 in cc
triplet_past p (x ∷ a ∷ b ∷ cs) u h =
    let one = both (x == 37) (is_ascii_hexdigit a && is_ascii_hexdigit b) h in
    let two = both (is_ascii_hexdigit a) (is_ascii_hexdigit b) one.1 in
    subst (λ n. IsUtf8 (n ∷ a ∷ b ∷ cs) → over p (chars cs) ≡ over p (chars (n ∷ a ∷ b ∷ cs))) (sym (eqb-true x 37 one.0))
    (λ v. sym (percent_step p (a ∷ b ∷ cs) v ∙ rw (two.0, two.1) refl)) u

-- `%` without two hex digits
no_triplet : (p : ℕ → Bool) (t : List ℕ) → IsUtf8 (37 ∷ t) → begins_with_triplet (37 ∷ t) ≡ false → over p (chars (37 ∷ t)) ≡ false
no_triplet p t u h = percent_step p t u
    ∙ sym (and_assoc (begins_with_digit t) (begins_with_digit (tail t)) (over p (chars (tail (tail t)))))
    ∙ and_left (begins_with_digit t && begins_with_digit (tail t)) (over p (chars (tail (tail t)))) h

-- a character at the start that is no `%`
plain_step : (p : ℕ → Bool) (c : ℕ) (cs : List ℕ) → c ≢ 37 → over p (c ∷ cs) ≡ (p c && over p cs)
unfolding over_from
plain_step p c cs n = let e : (c == 37) ≡ false = grind (arith, nat_tests) in rw e refl

pub char_past : (p : ℕ → Bool) (c : ℕ) (t r : List ℕ) → IsUtf8 t → t ≡ encode_utf8 c ++ r → p 37 ≡ false → p c ≡ true
    → over p (chars r) ≡ over p (chars t)
char_past p c t r u e n h =
    let other : c ≢ 37 = λ k. let no : true ≡ false = sym h ∙ (ap p k ∙ n) in cc in
    sym (ap (over p) (chars_past_char t r c u e) ∙ (plain_step p c (chars r) other ∙ rw h refl))

-- no unit at the start of a text: then none at the start of what begins it
triplet-prefix : (y z : List ℕ) → begins_with_triplet (y ++ z) ≡ false → begins_with_triplet y ≡ false
triplet-prefix [] z h = refl
triplet-prefix (x ∷ []) z h = and-false (x == 37)
triplet-prefix (x ∷ a ∷ []) z h = and_right (x == 37) (is_ascii_hexdigit a && false) (and-false (is_ascii_hexdigit a))
triplet-prefix (x ∷ a ∷ b ∷ y) z h = h

-- so what begins it is no text over the class
pub none-over : (p : ℕ → Bool) (y z : List ℕ) → IsUtf8 y → is_empty y ≡ false → HasNoUnit p (y ++ z) → over p (chars y) ≡ false
none-over p y z u some h = by (chars y) refl
  where
    spelled : (cs : List ℕ) → chars y ≡ cs → y ≡ encodes cs
    spelled cs e = sym (encodes-chars y u) ∙ ap encodes e

    at_percent : (c : ℕ) (cs : List ℕ) → chars y ≡ c ∷ cs → c ≡ 37 → over p (chars y) ≡ false
    at_percent c cs e same =
        let prefix : y ≡ 37 ∷ encodes cs = spelled (c ∷ cs) e ∙ (ap (λ d. encode_utf8 d ++ encodes cs) same ∙ ap (λ l. l ++ encodes cs) (encode_ascii 37 (omega arith))) in
        ap (λ l. over p (chars l)) prefix
        ∙ no_triplet p (encodes cs) (subst IsUtf8 prefix u) (sym (ap begins_with_triplet prefix) ∙ triplet-prefix y z h.0)

    by : (cs : List ℕ) → chars y ≡ cs → over p (chars y) ≡ false
    by [] e = let no : true ≡ false = sym (ap is_empty (spelled [] e)) ∙ some in cc
    by (c ∷ cs) e =
        let fails : p c ≡ false = sym (ap (first_passes p) (chars-append y z u ∙ ap (λ l. l ++ chars z) e)) ∙ h.1 in
        elim (cases_eq c 37) [ inl same ↦ at_percent c cs e same | inr other ↦ ap (over p) e ∙ (plain_step p c cs other ∙ rw fails refl) ]

pub char_stops : (p : ℕ → Bool) (c : ℕ) (t r : List ℕ) → IsUtf8 t → t ≡ encode_utf8 c ++ r → begins_with_triplet t ≡ false → p c ≡ false
    → HasNoUnit p t
char_stops p c t r u e none h = (none, ap (first_passes p) (chars_past_char t r c u e) ∙ h)

pub nothing_left : (p : ℕ → Bool) (t : List ℕ) → length t ≡ 0 → HasNoUnit p t
nothing_left p [] h = (refl, rw chars-nil refl)
nothing_left p (x ∷ xs) h = absurd (omega arith)

pub nothing_more : (p : ℕ → Bool) → over p (chars []) ≡ true
unfolding over_from
nothing_more p = rw chars-nil refl

-- a run of ASCII characters of the class
pub run_text : (q : ℕ → Bool) (t : List ℕ) → ((c : ℕ) → q c ≡ true → c < 128) → IsUtf8 t → IsUtf8 (drop (run_of q t) t)
run_text q [] w u = u
run_text q (x ∷ xs) w u =
    elim (q x) as (λ b. q x ≡ b → IsUtf8 (drop (cond b (suc (run_of q xs)) 0) (x ∷ xs))) [
      | true ↦ λ e. run_text q xs w (text_after_ascii x xs u (w x e))
      | false ↦ λ _. u
    ] refl

pub run_past : (p q : ℕ → Bool) (t : List ℕ) → ((c : ℕ) → q c ≡ true → (c < 128) × (p c ≡ true)) → p 37 ≡ false → IsUtf8 t
    → over p (chars (drop (run_of q t) t)) ≡ over p (chars t)
run_past p q [] w n u = refl
run_past p q (x ∷ xs) w n u =
    elim (q x) as (λ b. q x ≡ b → over p (chars (drop (cond b (suc (run_of q xs)) 0) (x ∷ xs))) ≡ over p (chars (x ∷ xs))) [
      | true ↦ λ e.
          let k = w x e in
          run_past p q xs w n (text_after_ascii x xs u k.0) ∙ char_past p x (x ∷ xs) xs u (ascii_prefix x xs k.0) n k.1
      | false ↦ λ _. refl
    ] refl

pub run_of_le : (q : ℕ → Bool) (t : List ℕ) → run_of q t ≤ length t
run_of_le q [] = omega arith
run_of_le q (x ∷ xs) =
    elim (q x) as (λ b. cond b (suc (run_of q xs)) 0 ≤ length (x ∷ xs)) [ true ↦ omega (arith, run_of_le q xs) | false ↦ omega arith ]

-- what follows a character is shorter
pub char_shorter : (c : ℕ) (t r : List ℕ) → t ≡ encode_utf8 c ++ r → length r < length t
char_shorter c t r e = omega (arith, ap length e, length-append (encode_utf8 c) r, length-encode c, (len_utf8_bounds c).0)

-- of a text
pub of_text : (p : ℕ → Bool) (t : List ℕ) → IsUtf8 t → text_over p t ≡ over p (chars t)
of_text p t u = rw (is_utf8-from_IsUtf8 t u) refl
