-- Texts over a class, put together and cut at a delimiter.
use Rattle.iri_normal.proofs.Common.{◌≡◌, ℕ, zero, suc, ◌<◌, Bool, true, cond, ◌&&◌, List, [], ◌∷◌, ◌++◌, refl, sym, ◌∙◌, ap, arith}
use Rattle.iri_normal.proofs.Common.{append-nil, false, ◌==◌, is_ascii_hexdigit, IsUtf8, encode, encode_ascii, low_scalar, text_over, both}
use Rattle.iri_grammar.proofs.authorities.AuthorityTexts.{one_byte-utf8, text_over-utf8}
use Rattle.iri_grammar.proofs.splits.CharBoundaries.{text_after_delimiter, text_before_delimiter}
use Rattle.iri_grammar.specs.Over.{over_from, over}
use Rattle.std.proofs.lemmas.Str.{is_utf8-from_IsUtf8, IsUtf8-append, chars-encodes, chars-append}
use Rattle.std.specs.Str.{chars, is_utf8}
use lib.Utf8.{scalars}

-- on both sides of a byte that is no digit of a triplet
over-sides : (p : ℕ → Bool) (c n : ℕ) (xs ys : List ℕ) → is_ascii_hexdigit c ≡ false → over_from p n (xs ++ c ∷ ys) ≡ true
    → (over_from p n xs ≡ true) × (over_from p 0 (c ∷ ys) ≡ true)
unfolding over_from
over-sides p c zero [] ys d h = (refl, h)
over-sides p c (suc n) [] ys d h = let no : false ≡ true = sym (ap (λ b. b && over_from p n ys) d) ∙ h in cc
over-sides p c zero (x ∷ xs) ys d h =
    elim (x == 37) as (λ b. cond b (over_from p 2 (xs ++ c ∷ ys)) (p x && over_from p 0 (xs ++ c ∷ ys)) ≡ true
    → (cond b (over_from p 2 xs) (p x && over_from p 0 xs) ≡ true) × (over_from p 0 (c ∷ ys) ≡ true)) [
      | true ↦ λ k. over-sides p c 2 xs ys d k
      | false ↦ λ k. let m = both (p x) (over_from p 0 (xs ++ c ∷ ys)) k in let r = over-sides p c 0 xs ys d m.1 in (rw m.0 r.0, r.1)
    ] h
over-sides p c (suc n) (x ∷ xs) ys d h = let m = both (is_ascii_hexdigit x) (over_from p n (xs ++ c ∷ ys)) h in
    let r = over-sides p c n xs ys d m.1 in (rw m.0 r.0, r.1)

-- ---- the same of bytes
pub utf8-from : (c : ℕ) (xs ys : List ℕ) → c < 128 → IsUtf8 (xs ++ c ∷ ys) → IsUtf8 (c ∷ ys)
utf8-from c xs ys a u = IsUtf8-append (c ∷ []) ys (one_byte-utf8 c a) (text_after_delimiter c xs ys a u)

pub chars-ascii : (c : ℕ) (rest : List ℕ) → c < 128 → chars (c ∷ rest) ≡ c ∷ chars rest
chars-ascii c rest l =
    let one : scalars (c ∷ []) ≡ true = rw (low_scalar c (omega arith)) refl in
    let alone : chars (c ∷ []) ≡ c ∷ [] = ap chars (sym (append-nil (encode c) ∙ encode_ascii c l)) ∙ chars-encodes (c ∷ []) one in
    chars-append (c ∷ []) rest (one_byte-utf8 c l) ∙ ap (λ cs. cs ++ chars rest) alone

pub is_utf8-of : (p : ℕ → Bool) (xs : List ℕ) → IsUtf8 xs → over p (chars xs) ≡ true → text_over p xs ≡ true
is_utf8-of p xs u h = rw (is_utf8-from_IsUtf8 xs u) h

pub over-of : (p : ℕ → Bool) (xs : List ℕ) → text_over p xs ≡ true → over p (chars xs) ≡ true
over-of p xs h = (both (is_utf8 xs) (over p (chars xs)) h).1

pub record TextSides (p : ℕ → Bool) (xs ys : List ℕ) : Type 0 where
  pub left : text_over p xs ≡ true
  pub slash : text_over p (47 ∷ []) ≡ true
  pub right : text_over p ys ≡ true

pub slash_over : (p : ℕ → Bool) → p 47 ≡ true → text_over p (47 ∷ []) ≡ true
unfolding over_from chars
slash_over p h = is_utf8-of p (47 ∷ []) (one_byte-utf8 47 (omega arith)) (rw h refl)

pub point_over : (p : ℕ → Bool) → p 46 ≡ true → text_over p (46 ∷ []) ≡ true
unfolding over_from chars
point_over p h = is_utf8-of p (46 ∷ []) (one_byte-utf8 46 (omega arith)) (rw h refl)

-- on both sides of an ASCII byte that is no digit of a triplet
pub text_over-sides : (p : ℕ → Bool) (c : ℕ) (xs ys : List ℕ) → c < 128 → is_ascii_hexdigit c ≡ false → text_over p (xs ++ c ∷ ys) ≡ true
    → (text_over p xs ≡ true) × (text_over p (c ∷ ys) ≡ true)
text_over-sides p c xs ys l d h =
    let u = text_over-utf8 p (xs ++ c ∷ ys) h in
    let prefix = text_before_delimiter c xs ys l u in
    let e : chars (xs ++ c ∷ ys) ≡ chars xs ++ c ∷ chars ys =
    chars-append xs (c ∷ ys) prefix ∙ ap (λ z. chars xs ++ z) (chars-ascii c ys l) in
    let k = over-sides p c 0 (chars xs) (chars ys) d (ap (over p) (sym e) ∙ over-of p (xs ++ c ∷ ys) h) in (
      is_utf8-of p xs prefix k.0,
      is_utf8-of p (c ∷ ys) (utf8-from c xs ys l u) (ap (over p) (chars-ascii c ys l) ∙ k.1),
    )

pub text_over-cut : (p : ℕ → Bool) (xs ys : List ℕ) → text_over p (xs ++ 47 ∷ ys) ≡ true → TextSides p xs ys
unfolding over_from
text_over-cut p xs ys h =
    let k = text_over-sides p 47 xs ys (omega arith) refl h in
    let back : (p 47 && over p (chars ys)) ≡ true = ap (over p) (sym (chars-ascii 47 ys (omega arith))) ∙ over-of p (47 ∷ ys) k.1 in
    let b = both (p 47) (over p (chars ys)) back in
    let u = text_after_delimiter 47 xs ys (omega arith) (text_over-utf8 p (xs ++ 47 ∷ ys) h) in
    record { left = k.0; slash = slash_over p b.0; right = is_utf8-of p ys u b.1 }
