-- An IP literal in lower case is an IP literal.
use Rattle.iri_normal.proofs.Common.{option_map, ◌≡◌, ℕ, Bool, true, false, cond, ◌&&◌, ◌||◌, List, [], ◌∷◌, Option, Some, None, map, refl}
use Rattle.iri_normal.proofs.Common.{◌∙◌, ap, arith, ◌==◌, list_all, nat_tests, length-map, is_ascii_userinfo, is_ascii_reg_name}
use Rattle.iri_normal.proofs.Common.{is_ascii_unreserved, is_sub_delim, before, after, pieces, onto, is_ip_literal, lowered}
use Rattle.iri_normal.proofs.Common.{is_ascii_hexdigit, to_ascii_lowercase}
use Rattle.iri_grammar.specs.Cut.{tail}
use Rattle.iri_grammar.specs.IpLiteral.{some_of, is_future_address, is_ipvfuture, is_end}
use Rattle.iri_grammar.specs.Ipv4.{is_ipv4, is_dec_octet, is_hundreds, are_four_octets}
use Rattle.iri_grammar.specs.Ipv6.{is_group, are_groups, are_groups_or_ipv4, group_count}
use Rattle.iri_grammar.specs.Ipv6Test.{begins, before_double, after_double, group_texts, is_ipv6_around, is_ipv6}
use Rattle.std.specs.Char.{is_ascii_digit}
use Rattle.std.specs.Int.{is_in_range}

-- ---- what is no letter
abbrev Stays : ℕ → Type 0
Stays m = (x : ℕ) → (to_ascii_lowercase x == m) ≡ (x == m)

dot_stays : Stays 46
dot_stays x = grind (arith, nat_tests)

colon_stays : Stays 58
colon_stays x = grind (arith, nat_tests)

open_stays : Stays 91
open_stays x = grind (arith, nat_tests)

close_stays : Stays 93
close_stays x = grind (arith, nat_tests)

digit-lower : (x : ℕ) → is_ascii_digit (to_ascii_lowercase x) ≡ is_ascii_digit x
digit-lower x = grind (arith, nat_tests)

hex-lower : (x : ℕ) → is_ascii_hexdigit (to_ascii_lowercase x) ≡ is_ascii_hexdigit x
hex-lower x = grind (arith, nat_tests)

first-lower : (x : ℕ) → is_in_range 49 57 (to_ascii_lowercase x) ≡ is_in_range 49 57 x
first-lower x = grind (arith, nat_tests)

userinfo-lower : (x : ℕ) → is_ascii_userinfo (to_ascii_lowercase x) ≡ is_ascii_userinfo x
unfolding is_ascii_userinfo is_ascii_reg_name is_ascii_unreserved is_sub_delim
userinfo-lower x = grind (arith, nat_tests)

-- ---- cutting
all-lower : (p : ℕ → Bool) (xs : List ℕ) → ((x : ℕ) → p (to_ascii_lowercase x) ≡ p x) → list_all p (lowered xs) ≡ list_all p xs
all-lower p [] h = refl
all-lower p (x ∷ xs) h = rw (h x, all-lower p xs h) refl

some-lower : (p : ℕ → Bool) (xs : List ℕ) → ((x : ℕ) → p (to_ascii_lowercase x) ≡ p x) → some_of p (lowered xs) ≡ some_of p xs
some-lower p [] h = refl
some-lower p (x ∷ xs) h = all-lower p (x ∷ xs) h

onto-lower : (x : ℕ) (ps : List (List ℕ)) → onto (to_ascii_lowercase x) (map lowered ps) ≡ map lowered (onto x ps)
onto-lower x [] = refl
onto-lower x (p ∷ ps) = refl

pieces-lower : (m : ℕ) (xs : List ℕ) → Stays m → pieces m (lowered xs) ≡ map lowered (pieces m xs)
pieces-lower m [] h = refl
pieces-lower m (x ∷ xs) h =
    rw (h x, pieces-lower m xs h) (elim (x == m) as (λ b. cond b ([] ∷ map lowered (pieces m xs))
    (onto (to_ascii_lowercase x) (map lowered (pieces m xs)))
    ≡ map lowered (cond b ([] ∷ pieces m xs) (onto x (pieces m xs)))) [ true ↦ refl | false ↦ onto-lower x (pieces m xs) ])

before-lower : (m : ℕ) (xs : List ℕ) → Stays m → before m (lowered xs) ≡ lowered (before m xs)
before-lower m [] h = refl
before-lower m (x ∷ xs) h =
    rw (h x, before-lower m xs h) (elim (x == m) as (λ b. cond b [] (to_ascii_lowercase x ∷ lowered (before m xs))
    ≡ lowered (cond b [] (x ∷ before m xs))) [ true ↦ refl | false ↦ refl ])

after-lower : (m : ℕ) (xs : List ℕ) → Stays m → after m (lowered xs) ≡ option_map lowered (after m xs)
after-lower m [] h = refl
after-lower m (x ∷ xs) h =
    rw (h x, after-lower m xs h) (elim (x == m) as (λ b. cond b (Some (lowered xs)) (option_map lowered (after m xs))
    ≡ option_map lowered (cond b (Some xs) (after m xs))) [ true ↦ refl | false ↦ refl ])

-- ---- IPv4
hundreds-lower : (a b c : ℕ) → is_hundreds (to_ascii_lowercase a) (to_ascii_lowercase b) (to_ascii_lowercase c) ≡ is_hundreds a b c
unfolding is_hundreds
hundreds-lower a b c = rw (one a, two a, five b, digit-lower b, digit-lower c, four b, upto c) refl
  where
    one : (x : ℕ) → (to_ascii_lowercase x == 49) ≡ (x == 49)
    one x = grind (arith, nat_tests)

    two : (x : ℕ) → (to_ascii_lowercase x == 50) ≡ (x == 50)
    two x = grind (arith, nat_tests)

    five : (x : ℕ) → (to_ascii_lowercase x == 53) ≡ (x == 53)
    five x = grind (arith, nat_tests)

    four : (x : ℕ) → is_in_range 48 52 (to_ascii_lowercase x) ≡ is_in_range 48 52 x
    four x = grind (arith, nat_tests)

    upto : (x : ℕ) → is_in_range 48 53 (to_ascii_lowercase x) ≡ is_in_range 48 53 x
    upto x = grind (arith, nat_tests)

octet-lower : (xs : List ℕ) → is_dec_octet (lowered xs) ≡ is_dec_octet xs
octet-lower [] = refl
octet-lower (a ∷ []) = digit-lower a
octet-lower (a ∷ b ∷ []) = rw (first-lower a, digit-lower b) refl
octet-lower (a ∷ b ∷ c ∷ []) = hundreds-lower a b c
octet-lower (a ∷ b ∷ c ∷ d ∷ ds) = refl

four-lower : (ps : List (List ℕ)) → are_four_octets (map lowered ps) ≡ are_four_octets ps
four-lower [] = refl
four-lower (a ∷ []) = refl
four-lower (a ∷ b ∷ []) = refl
four-lower (a ∷ b ∷ c ∷ []) = refl
four-lower (a ∷ b ∷ c ∷ d ∷ []) = rw (octet-lower a, octet-lower b, octet-lower c, octet-lower d) refl
four-lower (a ∷ b ∷ c ∷ d ∷ e ∷ ps) = refl

ipv4-lower : (xs : List ℕ) → is_ipv4 (lowered xs) ≡ is_ipv4 xs
ipv4-lower xs = ap are_four_octets (pieces-lower 46 xs dot_stays) ∙ four-lower (pieces 46 xs)

-- ---- IPv6
group-lower : (xs : List ℕ) → is_group (lowered xs) ≡ is_group xs
unfolding is_group
group-lower xs = rw (all-lower is_ascii_hexdigit xs hex-lower, length-map xs to_ascii_lowercase) refl

groups-lower : (ps : List (List ℕ)) → are_groups (map lowered ps) ≡ are_groups ps
groups-lower [] = refl
groups-lower (p ∷ ps) = rw (group-lower p, groups-lower ps) refl

mixed-lower : (ps : List (List ℕ)) → are_groups_or_ipv4 (map lowered ps) ≡ are_groups_or_ipv4 ps
mixed-lower [] = refl
mixed-lower (p ∷ []) = rw (group-lower p, ipv4-lower p) refl
mixed-lower (p ∷ q ∷ ps) = rw (group-lower p, mixed-lower (q ∷ ps)) refl

units-lower : (ps : List (List ℕ)) → group_count (map lowered ps) ≡ group_count ps
units-lower [] = refl
units-lower (p ∷ ps) = rw (ipv4-lower p, units-lower ps) refl

begins-lower : (m : ℕ) (xs : List ℕ) → Stays m → begins m (lowered xs) ≡ begins m xs
begins-lower m [] h = refl
begins-lower m (x ∷ xs) h = h x

tail-lower : (xs : List ℕ) → tail (lowered xs) ≡ lowered (tail xs)
tail-lower [] = refl
tail-lower (x ∷ xs) = refl

before_double-lower : (xs : List ℕ) → before_double (lowered xs) ≡ lowered (before_double xs)
before_double-lower [] = refl
before_double-lower (x ∷ xs) =
    rw (colon_stays x, begins-lower 58 xs colon_stays, before_double-lower xs)
    (elim (x == 58 && begins 58 xs) as (λ b. cond b [] (to_ascii_lowercase x ∷ lowered (before_double xs))
    ≡ lowered (cond b [] (x ∷ before_double xs))) [ true ↦ refl | false ↦ refl ])

after_double-lower : (xs : List ℕ) → after_double (lowered xs) ≡ option_map lowered (after_double xs)
after_double-lower [] = refl
after_double-lower (x ∷ xs) =
    rw (colon_stays x, begins-lower 58 xs colon_stays, after_double-lower xs, tail-lower xs)
    (elim (x == 58 && begins 58 xs) as (λ b. cond b (Some (lowered (tail xs))) (option_map lowered (after_double xs))
    ≡ option_map lowered (cond b (Some (tail xs)) (after_double xs))) [ true ↦ refl | false ↦ refl ])

parts-lower : (xs : List ℕ) → group_texts (lowered xs) ≡ map lowered (group_texts xs)
parts-lower [] = refl
parts-lower (x ∷ xs) = pieces-lower 58 (x ∷ xs) colon_stays

around-lower : (prefix : List ℕ) (back : Option (List ℕ))
    → is_ipv6_around (lowered prefix) (option_map lowered back) ≡ is_ipv6_around prefix back
around-lower prefix None = rw (parts-lower prefix, mixed-lower (group_texts prefix), units-lower (group_texts prefix)) refl
around-lower prefix (Some back) =
    rw (
      parts-lower prefix,
      parts-lower back,
      groups-lower (group_texts prefix),
      mixed-lower (group_texts back),
      units-lower (group_texts prefix),
      units-lower (group_texts back),
    ) refl

ipv6-lower : (xs : List ℕ) → is_ipv6 (lowered xs) ≡ is_ipv6 xs
ipv6-lower xs = rw (before_double-lower xs, after_double-lower xs) (around-lower (before_double xs) (after_double xs))

-- ---- IPvFuture and the whole
version-lower : (v : ℕ) → (to_ascii_lowercase v == 118 || to_ascii_lowercase v == 86) ≡ (v == 118 || v == 86)
version-lower v = grind (arith, nat_tests)

address-lower : (o : Option (List ℕ)) → is_future_address (option_map lowered o) ≡ is_future_address o
address-lower None = refl
address-lower (Some xs) = some-lower is_ascii_userinfo xs userinfo-lower

future-lower : (xs : List ℕ) → is_ipvfuture (lowered xs) ≡ is_ipvfuture xs
future-lower [] = refl
future-lower (v ∷ t) =
    rw (
      version-lower v,
      before-lower 46 t dot_stays,
      after-lower 46 t dot_stays,
      some-lower is_ascii_hexdigit (before 46 t) hex-lower,
      address-lower (after 46 t),
    ) refl

end-lower : (o : Option (List ℕ)) → is_end (option_map lowered o) ≡ is_end o
end-lower None = refl
end-lower (Some []) = refl
end-lower (Some (x ∷ xs)) = refl

pub literal-lower : (h : List ℕ) → is_ip_literal (lowered h) ≡ is_ip_literal h
literal-lower [] = refl
literal-lower (b ∷ t) =
    rw (
      open_stays b,
      before-lower 93 t close_stays,
      after-lower 93 t close_stays,
      end-lower (after 93 t),
      ipv6-lower (before 93 t),
      future-lower (before 93 t),
    ) refl
