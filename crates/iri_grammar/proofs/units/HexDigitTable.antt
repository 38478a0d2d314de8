-- The table of hex digits agrees with what they stand for at each of the 256 bytes, by computing.
use Rattle.iri_grammar.proofs.Common.{◌≡◌, ℕ, ◌<◌, Bool, true, cond, get_or, refl, ◌∙◌, ap, subst, eqb-true, ◌==◌, nat_lt}
use Rattle.iri_grammar.proofs.Common.{is_ascii_hexdigit, agree_below, agree_below_at}
use Rattle.std.specs.Char.{digit_value}
use Rattle.iri_grammar.specs.declared.digits.TheConstants.{VALUES}

abbrev is_digit : ℕ → Bool
is_digit b = nat_lt (get_or VALUES b 0) 16

abbrev is_right : ℕ → Bool
is_right b = get_or VALUES b 0 == cond (is_ascii_hexdigit b) (digit_value b) 16

digits : agree_below is_digit is_ascii_hexdigit 256 ≡ true
digits = refl

right : agree_below is_right (λ _. true) 256 ≡ true
right = refl

pub test_here : (b n : ℕ) → b ≡ n → b < 256 → nat_lt (get_or VALUES n 0) 16 ≡ is_ascii_hexdigit b
test_here b n e l = subst (λ m. is_digit m ≡ is_ascii_hexdigit b) e (agree_below_at is_digit is_ascii_hexdigit 256 b digits l)

pub digit_here : (b n : ℕ) → b ≡ n → b < 256 → is_ascii_hexdigit b ≡ true → get_or VALUES n 0 ≡ digit_value b
digit_here b n e l h = subst (λ m. get_or VALUES m 0 ≡ digit_value b) e
    (eqb-true (get_or VALUES b 0) (cond (is_ascii_hexdigit b) (digit_value b) 16) (agree_below_at is_right (λ _. true) 256 b right l)
    ∙ ap (λ v. cond v (digit_value b) 16) h)

pub ruleset hex_values = (test_here, digit_here)
