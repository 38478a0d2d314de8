-- Hex digits, their values and their capital form.
use Rattle.iri_percent.proofs.Common.{◌≡◌, ℕ, ◌<◌, Bool, true, get_or, refl, subst, arith, eqb-true, ◌%◌, [], ◌∷◌, ◌+◌, ◌*◌, ◌/◌, nat_tests}
use Rattle.iri_percent.proofs.Common.{octet, capital_hex, triplet, is_ascii_hexdigit, digit_value, to_ascii_uppercase, agree_below, agree_below_at}
use Rattle.std.specs.Prelude.{nat_eq}
use Rattle.iri_percent.specs.declared.spelling.TheConstants.{DIGITS}

abbrev is_capital : ℕ → Bool
is_capital v = nat_eq (get_or DIGITS v 0) (capital_hex v)

capitals : agree_below is_capital (λ _. true) 16 ≡ true
capitals = refl

pub capital_here : (v n : ℕ) → v ≡ n → v < 16 → get_or DIGITS n 0 ≡ capital_hex v
capital_here v n e l = subst (λ m. get_or DIGITS m 0 ≡ capital_hex v) e
    (eqb-true (get_or DIGITS v 0) (capital_hex v) (agree_below_at is_capital (λ _. true) 16 v capitals l))

capital_of : (a : ℕ) → is_ascii_hexdigit a ≡ true → capital_hex (digit_value a) ≡ to_ascii_uppercase a
capital_of a h = grind (arith, nat_tests)

pub value_small : (a : ℕ) → is_ascii_hexdigit a ≡ true → digit_value a < 16
value_small a h = grind (arith, nat_tests)

high_part : (x y : ℕ) → y < 16 → (x * 16 + y) / 16 ≡ x
high_part x y h = omega arith

low_part : (x y : ℕ) → y < 16 → (x * 16 + y) % 16 ≡ y
low_part x y h = omega arith

-- two hex digits in capital are the triplet of the octet that they spell
pub capital_triplet : (a b : ℕ) → is_ascii_hexdigit a ≡ true → is_ascii_hexdigit b ≡ true
    → triplet (octet a b) ≡ 37 ∷ to_ascii_uppercase a ∷ to_ascii_uppercase b ∷ []
capital_triplet a b p q = rw (
  high_part (digit_value a) (digit_value b) (value_small b q),
  low_part (digit_value a) (digit_value b) (value_small b q),
) (rw (capital_of a p, capital_of b q) refl)
