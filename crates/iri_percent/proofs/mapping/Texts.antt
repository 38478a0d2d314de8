-- The mapping of texts over a class.
use Rattle.iri_percent.proofs.Common.{◌≡◌, ℕ, ◌+◌, ◌*◌, ◌<◌, ◌≤◌, Bool, true, false, List, [], ◌∷◌, ◌++◌, refl, sym, ◌∙◌, ap, subst, arith}
use Rattle.iri_percent.proofs.Common.{ltb-true, ◌/◌, ◌%◌, nat_lt, list_all, is_ascii_hexdigit, digit_value, encode, scalar, encode_ascii}
use Rattle.iri_percent.proofs.Common.{nat_tests, IsSpec, uri_tests, both, text_over, octet, capital_hex, triplet, mapped}
use Rattle.std.specs.Int.{is_in_range}
pub use Rattle.iri_percent.specs.inside.MapperText.{mapped-append}
use Rattle.iri_percent.proofs.forms.Classes.{IsText, ended, letter, escape, text-from_over, over-from_text}
use Rattle.iri_grammar.proofs.hosts.LiteralChars.{all-weaken}
use Rattle.iri_percent.proofs.units.AtStart.{encode_bytes, is_continuation, Spells, none, more}

-- ---- bytes
pub mapped-low : (x : ℕ) (xs : List ℕ) → nat_lt x 128 ≡ true → mapped (x ∷ xs) ≡ x ∷ mapped xs
mapped-low x xs h = rw h refl

pub mapped-high : (x : ℕ) (xs : List ℕ) → nat_lt x 128 ≡ false → mapped (x ∷ xs) ≡ triplet x ++ mapped xs
mapped-high x xs h = rw h refl

pub hex_low : (a : ℕ) → is_ascii_hexdigit a ≡ true → nat_lt a 128 ≡ true
hex_low a h = grind (arith, nat_tests)

pub mapped-triplet : (a b : ℕ) (xs : List ℕ) → is_ascii_hexdigit a ≡ true → is_ascii_hexdigit b ≡ true
    → mapped (37 ∷ a ∷ b ∷ xs) ≡ 37 ∷ a ∷ b ∷ mapped xs
mapped-triplet a b xs p q = ap (λ z. 37 ∷ z) (mapped-low a (b ∷ xs) (hex_low a p) ∙ ap (λ z. a ∷ z) (mapped-low b xs (hex_low b q)))

pub mapped-spelled : (sp os xs : List ℕ) → Spells sp os → mapped (sp ++ xs) ≡ sp ++ mapped xs
mapped-spelled sp os xs none = refl
mapped-spelled sp os xs (more a b sp' os' p q k) =
    mapped-triplet a b (sp' ++ xs) p q ∙ ap (λ z. 37 ∷ a ∷ b ∷ z) (mapped-spelled sp' os' xs k)

-- ---- the triplet of an octet
pub capital_is_hex : (n : ℕ) → n < 16 → is_ascii_hexdigit (capital_hex n) ≡ true
capital_is_hex n h = grind (arith, nat_tests)

capital_value : (n : ℕ) → n < 16 → digit_value (capital_hex n) ≡ n
capital_value n h = grind (arith, nat_tests)

abbrev pub is_high : ℕ → Bool
is_high x = is_in_range 128 255 x

pub high_past : (x : ℕ) → is_high x ≡ true → nat_lt x 128 ≡ false
high_past x h = grind (arith, nat_tests)

pub high_small : (x : ℕ) → is_high x ≡ true → x < 256
high_small x h = grind (arith, nat_tests)

pub first_digit : (x : ℕ) → x < 256 → x / 16 < 16
first_digit x h = omega arith

pub second_digit : (x : ℕ) → x % 16 < 16
second_digit x = omega arith

pub octet_of : (x : ℕ) → x < 256 → octet (capital_hex (x / 16)) (capital_hex (x % 16)) ≡ x
octet_of x h = rw (capital_value (x / 16) (first_digit x h), capital_value (x % 16) (second_digit x)) (whole x)
  where
    whole : (x : ℕ) → x / 16 * 16 + x % 16 ≡ x
    whole x = omega arith

-- the triplets of bytes past ASCII spell them
pub mapped-spells : (os : List ℕ) → list_all is_high os ≡ true → Spells (mapped os) os
mapped-spells [] h = none
mapped-spells (x ∷ xs) h =
    let k = both (is_high x) (list_all is_high xs) h in
    let l = high_small x k.0 in
    let h1 = capital_is_hex (x / 16) (first_digit x l) in
    let h2 = capital_is_hex (x % 16) (second_digit x) in
    subst (λ z. Spells z (x ∷ xs)) (sym (mapped-high x xs (high_past x k.0)))
    (subst (λ o. Spells (37 ∷ capital_hex (x / 16) ∷ capital_hex (x % 16) ∷ mapped xs) (o ∷ xs)) (octet_of x l)
    (more (capital_hex (x / 16)) (capital_hex (x % 16)) (mapped xs) xs h1 h2 (mapped-spells xs k.1)))

-- ---- characters past ASCII
scalar_small : (c : ℕ) → scalar c ≡ true → c < 1114112
scalar_small c h = grind (arith, nat_tests)

continues_high : (x : ℕ) → is_continuation x ≡ true → is_high x ≡ true
continues_high x h = grind (arith, nat_tests)

in_high : (x : ℕ) → 128 ≤ x → x < 256 → is_high x ≡ true
in_high x h k = grind (arith, nat_tests)

pub encode-high : (c : ℕ) → scalar c ≡ true → nat_lt c 128 ≡ false → list_all is_high (encode c) ≡ true
encode-high c s h =
    let b = encode_bytes c in
    let k = b.bounds h (scalar_small c s) in
    let first : is_high b.lead ≡ true = in_high b.lead (omega (arith, k.0)) k.1 in
    ap (list_all is_high) b.split ∙ rw first (all-weaken is_continuation is_high continues_high b.tail b.continue)

pub uri-spec : IsSpec uri_tests
uri-spec = record { ucs_ascii = λ c l. refl; priv_ascii = λ c l. refl; apart = λ c. refl }

-- ---- the class
spelled-text : (q : ℕ → Bool) (sp os t : List ℕ) → Spells sp os → IsText q t → IsText q (sp ++ t)
spelled-text q sp os t none h = h
spelled-text q sp os t (more a b sp' os' ha hb k) h = escape a b (sp' ++ t) ha hb (spelled-text q sp' os' t k h)

mapped-text : (p q : ℕ → Bool) → ((c : ℕ) → c < 128 → p c ≡ true → q c ≡ true) → (t : List ℕ) → IsText p t → IsText q (mapped t)
mapped-text p q w t ended = ended
mapped-text p q w t (escape a b t' ha hb r) = subst (λ z. IsText q z) (sym (mapped-triplet a b t' ha hb))
    (escape a b (mapped t') ha hb (mapped-text p q w t' r))
mapped-text p q w t (letter c t' h m n r) =
    let rest = mapped-text p q w t' r in
    elim (nat_lt c 128) as (λ b. nat_lt c 128 ≡ b → IsText q (mapped (encode c ++ t'))) [
      | true ↦ λ e.
          let l = ltb-true c 128 e in
          let one : mapped (encode c ++ t') ≡ encode c ++ mapped t' =
          ap (λ z. mapped (z ++ t')) (encode_ascii c l) ∙ mapped-low c t' e ∙ ap (λ z. z ++ mapped t') (sym (encode_ascii c l)) in
          subst (λ z. IsText q z) (sym one) (letter c (mapped t') h (w c l m) n rest)
      | false ↦ λ e. subst (λ z. IsText q z) (sym (mapped-append (encode c) t'))
          (spelled-text q (mapped (encode c)) (encode c) (mapped t') (mapped-spells (encode c) (encode-high c h e)) rest)
    ] refl

-- a text over a class, mapped, is over the same class of URIs
pub mapped-over : (p q : ℕ → Bool) (t : List ℕ) → p 37 ≡ false → q 37 ≡ false → ((c : ℕ) → c < 128 → p c ≡ true → q c ≡ true)
    → text_over p t ≡ true → text_over q (mapped t) ≡ true
mapped-over p q t n m w h = over-from_text q (mapped t) m (mapped-text p q w t (text-from_over p t n h))
