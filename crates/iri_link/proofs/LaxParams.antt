-- Which parameters can be written.
use Rattle.iri_link.proofs.Common.{◌≡◌, ◌∙◌, ℕ, ◌+◌, ◌<◌, ◌≤◌, inl, inr, Bool, true, false, cond, ◌&&◌, List, [], ◌∷◌, Option, Some, None, map, refl, sym, ap, arith}
use Rattle.iri_link.proofs.Common.{list_all, by_test, cases_lt, nat_tests, is_pair_char, is_token, is_token_char, str_to_ascii_lowercase, unquoted_from}
use Rattle.std.specs.Char.{to_ascii_lowercase}
use Rattle.std.specs.Option.{option_map}
use Rattle.std.proofs.lemmas.Str.Ascii.{lowercase_is}
use Rattle.iri_link.specs.LaxReadings.{is_writable, is_writable_value}
use Rattle.iri_link.specs.inside.ReadQuoted.{said}

lowered_same : (c : ℕ) → is_token_char (to_ascii_lowercase c) ≡ is_token_char c
lowered_same c =
    elim (cases_lt c 65) [
      | inl low ↦ ap is_token_char ((lowercase_is c).1 low)
      | inr ge ↦ elim (cases_lt c 91) [
        | inl capital ↦ ap is_token_char ((lowercase_is c).0 (omega arith, omega arith)) ∙ small c ge capital
        | inr high ↦ ap is_token_char ((lowercase_is c).2 (omega arith))
      ]
    ]
  where
    small : (x : ℕ) → 65 ≤ x → x < 91 → is_token_char (x + 32) ≡ is_token_char x
    small x a b = let f : is_token_char x ≡ true = grind (arith, nat_tests) in let g : is_token_char (x + 32) ≡ true = grind (arith, nat_tests) in rw (f, g) refl

lowered_all : (n : List ℕ) → list_all is_token_char (map to_ascii_lowercase n) ≡ list_all is_token_char n
lowered_all [] = refl
lowered_all (c ∷ cs) = ap (λ b. b && list_all is_token_char (map to_ascii_lowercase cs)) (lowered_same c) ∙ ap (λ b. is_token_char c && b) (lowered_all cs)

pub lowered_token : (n : List ℕ) → is_token (str_to_ascii_lowercase n) ≡ is_token n
lowered_token [] = refl
lowered_token (c ∷ cs) = lowered_all (c ∷ cs)

unquoted_all : (e : Bool) (t : List ℕ) → list_all is_pair_char (unquoted_from e t) ≡ list_all is_pair_char t
unfolding unquoted_from
unquoted_all e [] = refl
unquoted_all true (c ∷ cs) = ap (λ b. is_pair_char c && b) (unquoted_all false cs)
unquoted_all false (c ∷ cs) =
    by_test c 92 (λ b. list_all is_pair_char (cond b (unquoted_from true cs) (c ∷ unquoted_from false cs)) ≡ (is_pair_char c && list_all is_pair_char cs))
    (λ e. unquoted_all true cs ∙ ap (λ d. is_pair_char d && list_all is_pair_char cs) (sym e)) (λ _. ap (λ b. is_pair_char c && b) (unquoted_all false cs))

value_said : (e : Bool) (v : Option (List ℕ)) → is_writable_value (option_map (said e) v) ≡ is_writable_value v
value_said e None = refl
value_said true (Some t) = unquoted_all false t
value_said false (Some t) = refl

pub writable-said : (e : Bool) (n : List ℕ) (v : Option (List ℕ)) → is_writable (record { name = str_to_ascii_lowercase n; value = option_map (said e) v }) ≡ (is_token n && is_writable_value v)
writable-said e n v = ap (λ b. b && is_writable_value (option_map (said e) v)) (lowered_token n) ∙ ap (λ b. is_token n && b) (value_said e v)
