-- The characters of an IP literal.
use Rattle.iri_grammar.proofs.Common.{◌==◌, is_ascii_hexdigit, is_ascii_digit, list_all, nat_tests, is_ascii_userinfo, is_ascii_reg_name}
use Rattle.iri_grammar.proofs.Common.{is_ascii_unreserved, is_sub_delim, pieces, onto, is_ipv4, is_dec_octet, are_four_octets, is_group}
use Rattle.iri_grammar.proofs.Common.{are_groups, are_groups_or_ipv4, group_count, before_double, after_double, group_texts, is_ipv6_around}
use Rattle.iri_grammar.proofs.Common.{is_ipv6, is_ipvfuture, is_end, is_ip_literal, before, after, delimited, tail, begins}
use Rattle.std.proofs.Common.{◌≡◌, ℕ, Bool, true, false, cond, ◌&&◌, ◌||◌, List, [], ◌∷◌, ◌++◌, Option, Some, None, refl, ◌∙◌, subst, arith}
use Rattle.std.proofs.Common.{inl, inr}
use Rattle.std.proofs.lemmas.Bool.{or_cases, or_left}
use Rattle.std.proofs.lemmas.List.Folds.{list_all-append}
use Rattle.iri_grammar.specs.Ipv4.{is_hundreds}
use Rattle.iri_grammar.specs.IpLiteral.{some_of, is_future_address}
use Rattle.iri_grammar.proofs.splits.CutLaws.{by_test, both, and_three, joined}

-- brackets, and what stands in them: hex digits, `.`, `:` and the other ASCII characters of a userinfo
unfoldable pub is_literal_char : ℕ → Bool
is_literal_char c = is_ascii_userinfo c || (c == 91 || c == 93)

pub all-weaken : (p q : ℕ → Bool) → ((c : ℕ) → p c ≡ true → q c ≡ true) → (xs : List ℕ) → list_all p xs ≡ true → list_all q xs ≡ true
all-weaken p q w [] h = refl
all-weaken p q w (x ∷ xs) h = let k = both (p x) (list_all p xs) h in rw (w x k.0) (all-weaken p q w xs k.1)

pub all-join : (p : ℕ → Bool) (xs ys : List ℕ) → list_all p xs ≡ true → list_all p ys ≡ true → list_all p (xs ++ ys) ≡ true
all-join p xs ys h k = list_all-append p xs ys ∙ rw (h, k) refl

hex-literal : (c : ℕ) → is_ascii_hexdigit c ≡ true → is_literal_char c ≡ true
unfolding is_literal_char is_ascii_userinfo is_ascii_reg_name is_ascii_unreserved is_sub_delim
hex-literal c h = grind (arith, nat_tests)

-- the characters of an IPv4 text: a digit or a dot
abbrev pub is_ipv4_char : ℕ → Bool
is_ipv4_char c = is_ascii_digit c || c == 46

ipv4_char-literal : (c : ℕ) → is_ipv4_char c ≡ true → is_literal_char c ≡ true
unfolding is_literal_char is_ascii_userinfo is_ascii_reg_name is_ascii_unreserved is_sub_delim
ipv4_char-literal c h = grind (arith, nat_tests)

userinfo-literal : (c : ℕ) → is_ascii_userinfo c ≡ true → is_literal_char c ≡ true
unfolding is_literal_char
userinfo-literal c h = rw h refl

dot-literal : is_literal_char 46 ≡ true
unfolding is_literal_char is_ascii_userinfo is_ascii_reg_name is_ascii_unreserved is_sub_delim
dot-literal = refl

colon-literal : is_literal_char 58 ≡ true
unfolding is_literal_char is_ascii_userinfo is_ascii_reg_name is_ascii_unreserved is_sub_delim
colon-literal = refl

-- ---- pieces
onto-all : (p : ℕ → Bool) (x : ℕ) (ps : List (List ℕ)) → list_all (list_all p) (onto x ps) ≡ true
    → (p x ≡ true) × (list_all (list_all p) ps ≡ true)
onto-all p x [] h = let k = both (p x && true) true h in let m = both (p x) true k.0 in (m.0, refl)
onto-all p x (q ∷ ps) h =
    let k = both (p x && list_all p q) (list_all (list_all p) ps) h in
    let m = both (p x) (list_all p q) k.0 in
    (m.0, rw (m.1, k.1) refl)

pieces-all : (p : ℕ → Bool) (d : ℕ) (xs : List ℕ) → p d ≡ true → list_all (list_all p) (pieces d xs) ≡ true → list_all p xs ≡ true
pieces-all p d [] m h = refl
pieces-all p d (x ∷ xs) m h =
    by_test x d (λ b. list_all (list_all p) (cond b ([] ∷ pieces d xs) (onto x (pieces d xs))) ≡ true → (p x && list_all p xs) ≡ true)
    (λ e k. rw (e, m) (pieces-all p d xs m k))
    (λ _ k. let o = onto-all p x (pieces d xs) k in rw o.0 (pieces-all p d xs m o.1))
    h

-- ---- IPv4
hundreds-digits : (a b c : ℕ) → is_hundreds a b c ≡ true → (is_ascii_digit a ≡ true) × (is_ascii_digit b ≡ true) × (is_ascii_digit c ≡ true)
unfolding is_hundreds
hundreds-digits a b c h = (grind (arith, nat_tests), grind (arith, nat_tests), grind (arith, nat_tests))

pub octet-digits : (xs : List ℕ) → is_dec_octet xs ≡ true → list_all is_ascii_digit xs ≡ true
octet-digits [] h = refl
octet-digits (a ∷ []) h = rw h refl
octet-digits (a ∷ b ∷ []) h = grind (arith, nat_tests)
octet-digits (a ∷ b ∷ c ∷ []) h = let k = hundreds-digits a b c h in rw (k.0, k.1, k.2) refl
octet-digits (a ∷ b ∷ c ∷ d ∷ ds) h = cc

octet-chars : (xs : List ℕ) → is_dec_octet xs ≡ true → list_all is_ipv4_char xs ≡ true
octet-chars xs h = all-weaken is_ascii_digit is_ipv4_char (λ c k. or_left (is_ascii_digit c) (c == 46) k) xs (octet-digits xs h)

octets-chars : (ps : List (List ℕ)) → are_four_octets ps ≡ true → list_all (list_all is_ipv4_char) ps ≡ true
octets-chars [] h = refl
octets-chars (a ∷ []) h = cc
octets-chars (a ∷ b ∷ []) h = cc
octets-chars (a ∷ b ∷ c ∷ []) h = cc
octets-chars (a ∷ b ∷ c ∷ d ∷ []) h =
    let last = both (is_dec_octet a && is_dec_octet b && is_dec_octet c) (is_dec_octet d) h in
    let k = and_three (is_dec_octet a) (is_dec_octet b) (is_dec_octet c) last.0 in
    rw (octet-chars a k.0, octet-chars b k.1, octet-chars c k.2, octet-chars d last.1) refl
octets-chars (a ∷ b ∷ c ∷ d ∷ e ∷ ps) h = cc

pub ipv4-chars : (xs : List ℕ) → is_ipv4 xs ≡ true → list_all is_ipv4_char xs ≡ true
ipv4-chars xs h = pieces-all is_ipv4_char 46 xs refl (octets-chars (pieces 46 xs) h)

pub ipv4-literal : (xs : List ℕ) → is_ipv4 xs ≡ true → list_all is_literal_char xs ≡ true
ipv4-literal xs h = all-weaken is_ipv4_char is_literal_char ipv4_char-literal xs (ipv4-chars xs h)

-- ---- IPv6
pub hex_of_group : (p : List ℕ) → is_group p ≡ true → list_all is_ascii_hexdigit p ≡ true
unfolding is_group
hex_of_group p h = (and_three (list_all is_ascii_hexdigit p) _ _ h).0

group-literal : (xs : List ℕ) → is_group xs ≡ true → list_all is_literal_char xs ≡ true
group-literal xs h = all-weaken is_ascii_hexdigit is_literal_char hex-literal xs (hex_of_group xs h)

-- what holds of groups and of IPv4 texts holds of the parts
pub groups-all : (P : List ℕ → Bool) → ((p : List ℕ) → is_group p ≡ true → P p ≡ true) → (ps : List (List ℕ)) → are_groups ps ≡ true
    → list_all P ps ≡ true
groups-all P g [] h = refl
groups-all P g (p ∷ ps) h = let k = both (is_group p) (are_groups ps) h in rw (g p k.0) (groups-all P g ps k.1)

pub mixed-all : (P : List ℕ → Bool) → ((p : List ℕ) → is_group p ≡ true → P p ≡ true) → ((p : List ℕ) → is_ipv4 p ≡ true → P p ≡ true)
    → (ps : List (List ℕ)) → are_groups_or_ipv4 ps ≡ true → list_all P ps ≡ true
mixed-all P g i [] h = refl
mixed-all P g i (p ∷ []) h =
    let last : P p ≡ true = elim (or_cases (is_group p) (is_ipv4 p) h) [ inl k ↦ g p k | inr k ↦ i p k ] in
    rw last refl
mixed-all P g i (p ∷ q ∷ ps) h = let k = both (is_group p) (are_groups_or_ipv4 (q ∷ ps)) h in rw (g p k.0) (mixed-all P g i (q ∷ ps) k.1)

mixed-literal : (ps : List (List ℕ)) → are_groups_or_ipv4 ps ≡ true → list_all (list_all is_literal_char) ps ≡ true
mixed-literal = mixed-all (list_all is_literal_char) group-literal ipv4-literal

parts-literal : (xs : List ℕ) → list_all (list_all is_literal_char) (group_texts xs) ≡ true → list_all is_literal_char xs ≡ true
parts-literal [] h = refl
parts-literal (x ∷ xs) h = pieces-all is_literal_char 58 (x ∷ xs) colon-literal h

abbrev all_there : Option (List ℕ) → Bool
all_there None = true
all_there (Some xs) = list_all is_literal_char xs

begun : (xs : List ℕ) → begins 58 xs ≡ true → list_all is_literal_char (tail xs) ≡ true → list_all is_literal_char xs ≡ true
begun [] h k = refl
begun (x ∷ xs) h k = by_test x 58 (λ b. b ≡ true → (is_literal_char x && list_all is_literal_char xs) ≡ true)
    (λ e _. rw (e, colon-literal) k) (λ _ n. cc) h

double-literal : (xs : List ℕ) → list_all is_literal_char (before_double xs) ≡ true → all_there (after_double xs) ≡ true
    → list_all is_literal_char xs ≡ true
double-literal [] h k = refl
double-literal (x ∷ xs) h k =
    elim (x == 58 && begins 58 xs) as (λ b. (x == 58 && begins 58 xs) ≡ b
    → list_all is_literal_char (cond b [] (x ∷ before_double xs)) ≡ true
    → all_there (cond b (Some (tail xs)) (after_double xs)) ≡ true
    → (is_literal_char x && list_all is_literal_char xs) ≡ true) [
      | true ↦ λ e _ m. let t = both (x == 58) (begins 58 xs) e in begun (x ∷ xs) t.0 (begun xs t.1 m)
      | false ↦ λ _ l m. let t = both (is_literal_char x) (list_all is_literal_char (before_double xs)) l in
          rw t.0 (double-literal xs t.1 m)
    ] refl h k

around-literal : (prefix : List ℕ) (back : Option (List ℕ)) → is_ipv6_around prefix back ≡ true
    → (list_all is_literal_char prefix ≡ true) × (all_there back ≡ true)
around-literal prefix None h = (
  parts-literal prefix
      (mixed-literal (group_texts prefix) (both (are_groups_or_ipv4 (group_texts prefix)) (group_count (group_texts prefix) == 8) h).0),
  refl,
)
around-literal prefix (Some back) h =
    let k = and_three (are_groups (group_texts prefix)) (are_groups_or_ipv4 (group_texts back)) _ h in
    (parts-literal prefix (groups-all (list_all is_literal_char) group-literal (group_texts prefix) k.0), parts-literal back (mixed-literal (group_texts back) k.1))

ipv6-literal : (xs : List ℕ) → is_ipv6 xs ≡ true → list_all is_literal_char xs ≡ true
ipv6-literal xs h = let k = around-literal (before_double xs) (after_double xs) h in double-literal xs k.0 k.1

-- ---- IPvFuture
some-all : (p : ℕ → Bool) (xs : List ℕ) → some_of p xs ≡ true → list_all p xs ≡ true
some-all p [] h = refl
some-all p (x ∷ xs) h = h

address-literal : (o : Option (List ℕ)) → is_future_address o ≡ true → list_all is_literal_char (delimited 46 o) ≡ true
address-literal None h = refl
address-literal (Some xs) h = rw dot-literal (all-weaken is_ascii_userinfo is_literal_char userinfo-literal xs
    (some-all is_ascii_userinfo xs h))

version-literal : (v : ℕ) → (v == 118 || v == 86) ≡ true → is_literal_char v ≡ true
unfolding is_literal_char is_ascii_userinfo is_ascii_reg_name is_ascii_unreserved is_sub_delim
version-literal v h = grind (arith, nat_tests)

future-literal : (xs : List ℕ) → is_ipvfuture xs ≡ true → list_all is_literal_char xs ≡ true
future-literal [] h = refl
future-literal (v ∷ xs) h =
    let k = and_three (v == 118 || v == 86) (some_of is_ascii_hexdigit (before 46 xs)) (is_future_address (after 46 xs)) h in
    let digits = all-weaken is_ascii_hexdigit is_literal_char hex-literal (before 46 xs) (some-all is_ascii_hexdigit (before 46 xs) k.1) in
    rw (version-literal v k.0) (subst (λ ys. list_all is_literal_char ys ≡ true) (joined 46 xs)
    (all-join is_literal_char (before 46 xs) (delimited 46 (after 46 xs)) digits (address-literal (after 46 xs) k.2)))

-- ---- IP literals
open-literal : (b : ℕ) → (b == 91) ≡ true → is_literal_char b ≡ true
unfolding is_literal_char is_ascii_userinfo is_ascii_reg_name is_ascii_unreserved is_sub_delim
open-literal b h = grind (arith, nat_tests)

close-literal : is_literal_char 93 ≡ true
unfolding is_literal_char is_ascii_userinfo is_ascii_reg_name is_ascii_unreserved is_sub_delim
close-literal = refl

end-literal : (o : Option (List ℕ)) → is_end o ≡ true → list_all is_literal_char (delimited 93 o) ≡ true
end-literal None h = refl
end-literal (Some []) h = rw close-literal refl
end-literal (Some (x ∷ xs)) h = cc

address : (xs : List ℕ) → (is_ipv6 xs || is_ipvfuture xs) ≡ true → list_all is_literal_char xs ≡ true
address xs h = elim (or_cases (is_ipv6 xs) (is_ipvfuture xs) h) [ inl k ↦ ipv6-literal xs k | inr k ↦ future-literal xs k ]

pub ip_literal-chars : (xs : List ℕ) → is_ip_literal xs ≡ true → list_all is_literal_char xs ≡ true
ip_literal-chars [] h = refl
ip_literal-chars (b ∷ xs) h =
    let k = and_three (b == 91) (is_end (after 93 xs)) (is_ipv6 (before 93 xs) || is_ipvfuture (before 93 xs)) h in
    rw (open-literal b k.0) (subst (λ ys. list_all is_literal_char ys ≡ true) (joined 93 xs)
    (all-join is_literal_char (before 93 xs) (delimited 93 (after 93 xs)) (address (before 93 xs) k.2) (end-literal (after 93 xs) k.1)))
