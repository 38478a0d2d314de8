-- Changes of one byte: what stays, and the class of the text.
use Rattle.iri_resolve.proofs.Common.{◌≡◌, ℕ, zero, suc, ◌<◌, Bool, true, false, cond, ◌&&◌, List, [], ◌∷◌, ◌++◌, Some, None, refl, sym}
use Rattle.iri_resolve.proofs.Common.{◌∙◌, ap, arith, length, ◌==◌, nat_lt, take, drop, slice_index, slice_set, is_ascii_hexdigit}
use Rattle.iri_resolve.proofs.Common.{is_ascii_uppercase, to_ascii_lowercase, to_ascii_uppercase, chars, nat_tests, both, text_over}
use Rattle.iri_resolve.proofs.Common.{is_in_triplet, is_small_digit, with_small_letter, with_small_host_letter, with_capital_digit}
use Rattle.std.proofs.lemmas.Str.{IsUtf8-append, chars-append}
use Rattle.std.proofs.lemmas.Option.{cond_some}
use Rattle.iri_grammar.proofs.authorities.AuthorityTexts.{text_over-utf8, delimited-utf8}
use Rattle.iri_grammar.specs.Over.{over_from, over}
use Rattle.iri_grammar.proofs.units.FirstUnits.{hex_is_ascii}
use Rattle.iri_grammar.proofs.splits.CharBoundaries.{text_after_delimiter, text_before_delimiter}
use Rattle.iri_normal.proofs.targets.CutTexts.{is_utf8-of, over-of, chars-ascii}

-- ---- one byte
-- u is t with the byte at i, which passes the test, changed by f
pub record ByteChange (test : ℕ → Bool) (f : ℕ → ℕ) (i : ℕ) (t u : List ℕ) : Type 0 where
  pub byte : ℕ
  pub back : List ℕ
  pub passes : test byte ≡ true
  pub old : t ≡ take i t ++ byte ∷ back
  pub new : u ≡ take i t ++ f byte ∷ back

pub in_text : (i : ℕ) (t : List ℕ) → nat_lt 0 (slice_index t i) ≡ true → i < length t
in_text zero [] h = cc
in_text (suc i) [] h = cc
in_text zero (x ∷ xs) h = omega arith
in_text (suc i) (x ∷ xs) h = let l = in_text i xs h in omega arith

pub cut_at : (i : ℕ) (t : List ℕ) (y : ℕ) → i < length t
    → (t ≡ take i t ++ slice_index t i ∷ drop (suc i) t) × (slice_set t i y ≡ take i t ++ y ∷ drop (suc i) t)
cut_at i [] y h = absurd (omega arith)
cut_at zero (x ∷ xs) y h = (refl, refl)
cut_at (suc i) (x ∷ xs) y h = let r = cut_at i xs y (omega arith) in (ap (λ z. x ∷ z) r.0, ap (λ z. x ∷ z) r.1)

changed : (test : ℕ → Bool) (f : ℕ → ℕ) (i : ℕ) (t u : List ℕ) → nat_lt 0 (slice_index t i) ≡ true → test (slice_index t i) ≡ true
    → slice_set t i (f (slice_index t i)) ≡ u → ByteChange test f i t u
changed test f i t u h p e = let c = cut_at i t (f (slice_index t i)) (in_text i t h) in
    record { byte = slice_index t i; back = drop (suc i) t; passes = p; old = c.0; new = sym e ∙ c.1 }

pub capital_some : (x : ℕ) → is_ascii_uppercase x ≡ true → nat_lt 0 x ≡ true
capital_some x h = grind (arith, nat_tests)

pub digit_some : (x : ℕ) → is_small_digit x ≡ true → nat_lt 0 x ≡ true
digit_some x h = grind (arith, nat_tests)

pub capital_low : (x : ℕ) → is_ascii_uppercase x ≡ true → (x < 128) × (to_ascii_lowercase x < 128)
capital_low x h = (grind (arith, nat_tests), grind (arith, nat_tests))

pub digit_low : (x : ℕ) → is_small_digit x ≡ true → (x < 128) × (to_ascii_uppercase x < 128)
digit_low x h = (grind (arith, nat_tests), grind (arith, nat_tests))

pub small_letter : (i : ℕ) (t u : List ℕ) → with_small_letter i t ≡ Some u → ByteChange is_ascii_uppercase to_ascii_lowercase i t u
unfolding with_small_letter
small_letter i t u h =
    let r = cond_some (is_ascii_uppercase (slice_index t i)) (slice_set t i (to_ascii_lowercase (slice_index t i))) u h in
    changed is_ascii_uppercase to_ascii_lowercase i t u (capital_some (slice_index t i) r.0) r.0 r.1

-- such a change, and where it stands among the triplets
pub record PlacedChange (inside : Bool) (test : ℕ → Bool) (f : ℕ → ℕ) (i : ℕ) (t u : List ℕ) : Type 0 where
  pub place : is_in_triplet i t ≡ inside
  pub change : ByteChange test f i t u

pub small_host_letter : (i : ℕ) (t u : List ℕ) → with_small_host_letter i t ≡ Some u
    → PlacedChange false is_ascii_uppercase to_ascii_lowercase i t u
unfolding with_small_host_letter
small_host_letter i t u h =
    elim (is_in_triplet i t) as (λ b. is_in_triplet i t ≡ b → cond b None (with_small_letter i t) ≡ Some u
    → PlacedChange false is_ascii_uppercase to_ascii_lowercase i t u) [
      | true ↦ λ _ k. cc
      | false ↦ λ e k. record { place = e; change = small_letter i t u k }
    ] refl h

pub capital_digit : (i : ℕ) (t u : List ℕ) → with_capital_digit i t ≡ Some u → PlacedChange true is_small_digit to_ascii_uppercase i t u
unfolding with_capital_digit
capital_digit i t u h =
    let r = cond_some (is_in_triplet i t && is_small_digit (slice_index t i)) (slice_set t i (to_ascii_uppercase (slice_index t i))) u h in
    let p = both (is_in_triplet i t) (is_small_digit (slice_index t i)) r.0 in
    record { place = p.0; change = changed is_small_digit to_ascii_uppercase i t u (digit_some (slice_index t i) p.1) p.1 r.1 }

-- ---- the class
-- a byte y that may stand where x stands
pub record IsAsGood (p : ℕ → Bool) (x y : ℕ) : Type 0 where
  pub low : x < 128
  pub still_low : y < 128
  pub plain : (x == 37) ≡ false
  pub still_plain : (y == 37) ≡ false
  pub digit : is_ascii_hexdigit x ≡ true → is_ascii_hexdigit y ≡ true
  pub class : p x ≡ true → p y ≡ true

over-changed : (p : ℕ → Bool) (x y : ℕ) → IsAsGood p x y → (n : ℕ) (xs ys : List ℕ) → over_from p n (xs ++ x ∷ ys) ≡ true
    → over_from p n (xs ++ y ∷ ys) ≡ true
unfolding over_from
over-changed p x y g zero [] ys h =
    let k = both (p x) (over_from p 0 ys) (sym (ap (λ b. cond b (over_from p 2 ys) (p x && over_from p 0 ys)) g.plain) ∙ h) in
    rw (g.still_plain, g.class k.0) k.1
over-changed p x y g (suc n) [] ys h = let k = both (is_ascii_hexdigit x) (over_from p n ys) h in rw (g.digit k.0) k.1
over-changed p x y g zero (z ∷ zs) ys h =
    elim (z == 37) as (λ b. cond b (over_from p 2 (zs ++ x ∷ ys)) (p z && over_from p 0 (zs ++ x ∷ ys)) ≡ true
    → cond b (over_from p 2 (zs ++ y ∷ ys)) (p z && over_from p 0 (zs ++ y ∷ ys)) ≡ true) [
      | true ↦ λ k. over-changed p x y g 2 zs ys k
      | false ↦ λ k. let m = both (p z) (over_from p 0 (zs ++ x ∷ ys)) k in rw m.0 (over-changed p x y g 0 zs ys m.1)
    ] h
over-changed p x y g (suc n) (z ∷ zs) ys h =
    let m = both (is_ascii_hexdigit z) (over_from p n (zs ++ x ∷ ys)) h in rw m.0 (over-changed p x y g n zs ys m.1)

pub text_over-changed : (p : ℕ → Bool) (x y : ℕ) (a b : List ℕ) → IsAsGood p x y → text_over p (a ++ x ∷ b) ≡ true
    → text_over p (a ++ y ∷ b) ≡ true
text_over-changed p x y a b g h =
    let u = text_over-utf8 p (a ++ x ∷ b) h in
    let prefix = text_before_delimiter x a b g.low u in
    let back = text_after_delimiter x a b g.low u in
    let old : chars (a ++ x ∷ b) ≡ chars a ++ x ∷ chars b = chars-append a (x ∷ b) prefix ∙ ap (λ z. chars a ++ z) (chars-ascii x b g.low) in
    let new : chars (a ++ y ∷ b) ≡ chars a ++ y ∷ chars b =
    chars-append a (y ∷ b) prefix ∙ ap (λ z. chars a ++ z) (chars-ascii y b g.still_low) in
    is_utf8-of p (a ++ y ∷ b) (IsUtf8-append a (y ∷ b) prefix (delimited-utf8 y b g.still_low back))
    (ap (over p) new ∙ over-changed p x y g 0 (chars a) (chars b) (ap (over p) (sym old) ∙ over-of p (a ++ x ∷ b) h))

pub byte_change-over : (p test : ℕ → Bool) (f : ℕ → ℕ) (i : ℕ) (t u : List ℕ) → ((x : ℕ) → test x ≡ true → IsAsGood p x (f x))
    → ByteChange test f i t u → text_over p t ≡ true → text_over p u ≡ true
byte_change-over p test f i t u g c h =
    ap (text_over p) c.new ∙ text_over-changed p c.byte (f c.byte) (take i t) c.back (g c.byte c.passes) (ap (text_over p) (sym c.old) ∙ h)

-- ---- after a triplet in a text over a class
pub text_over-after : (p : ℕ → Bool) (a b : ℕ) (r : List ℕ) → is_ascii_hexdigit a ≡ true → is_ascii_hexdigit b ≡ true
    → text_over p (37 ∷ a ∷ b ∷ r) ≡ true → text_over p r ≡ true
unfolding over_from
text_over-after p a b r ha hb h =
    let la = hex_is_ascii a ha in
    let lb = hex_is_ascii b hb in
    let u = text_over-utf8 p (37 ∷ a ∷ b ∷ r) h in
    let e : chars (37 ∷ a ∷ b ∷ r) ≡ 37 ∷ a ∷ b ∷ chars r =
    chars-ascii 37 (a ∷ b ∷ r) (omega arith) ∙ ap (λ z. 37 ∷ z) (chars-ascii a (b ∷ r) la ∙ ap (λ z. a ∷ z) (chars-ascii b r lb)) in
    let k : (is_ascii_hexdigit a && (is_ascii_hexdigit b && over_from p 0 (chars r))) ≡ true =
    ap (over p) (sym e) ∙ over-of p (37 ∷ a ∷ b ∷ r) h in
    is_utf8-of p r (text_after_delimiter b (37 ∷ a ∷ []) r lb u)
    (both (is_ascii_hexdigit b) (over_from p 0 (chars r))
    (both (is_ascii_hexdigit a) (is_ascii_hexdigit b && over_from p 0 (chars r)) k).1).1
