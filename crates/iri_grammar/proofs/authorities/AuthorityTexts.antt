-- An authority is a text, and lacks the delimiters of the other parts.
use Rattle.iri_grammar.proofs.Common.{◌≡◌, ℕ, zero, suc, ◌<◌, Bool, true, false, cond, ◌&&◌, List, [], ◌∷◌, ◌++◌, Option, Some, None}
use Rattle.iri_grammar.proofs.Common.{refl, sym, ◌∙◌, ap, subst, arith, ◌==◌, is_some, slice_index, is_ascii_hexdigit, is_ascii_digit}
use Rattle.iri_grammar.proofs.Common.{list_all, chars, IsUtf8, is_utf8, IsUtf8-from_is_utf8, IsUtf8-from_ascii, IsUtf8-append, nat_tests}
use Rattle.iri_grammar.proofs.Common.{Tests, IsSpec, userinfo_char, reg_name_char, is_ascii_userinfo, is_ascii_reg_name}
use Rattle.iri_grammar.proofs.Common.{is_ascii_unreserved, is_sub_delim, over, text_over, if_there, is_port, is_userinfo, is_ip_literal}
use Rattle.iri_grammar.proofs.Common.{is_host, is_reg_name, is_authority, authority_parts, userinfo_text, userinfo_of, after_userinfo}
use Rattle.iri_grammar.proofs.Common.{or_all, host_of, port_of, before, after, lacks, delimited}
use Rattle.iri_grammar.proofs.Common.{append_assoc, inl, inr}
use Rattle.std.proofs.lemmas.Bool.{or_cases}
use Rattle.std.specs.Str.{IsAscii}
use Rattle.iri_grammar.proofs.splits.CutLaws.{both, joined, lacks-append, lacks-other, all-lacks}
use Rattle.iri_grammar.proofs.units.LackedBytes.{text-lacks}
use Rattle.iri_grammar.proofs.hosts.LiteralChars.{is_literal_char, ip_literal-chars}

-- ---- the authority is put together from its parts
host_port : (xs : List ℕ) → host_of xs ++ delimited 58 (port_of xs) ≡ xs
host_port [] = refl
host_port (x ∷ xs) =
    elim (x == 58 && is_port xs) as (λ b. (x == 58 && is_port xs) ≡ b
    → cond b [] (x ∷ host_of xs) ++ delimited 58 (cond b (Some xs) (port_of xs)) ≡ x ∷ xs) [
      | true ↦ λ e. let n : x ≡ 58 = same x (both (x == 58) (is_port xs) e).0 in ap (λ y. y ∷ xs) (sym n)
      | false ↦ λ _. ap (λ ys. x ∷ ys) (host_port xs)
    ] refl
  where
    same : (x : ℕ) → (x == 58) ≡ true → x ≡ 58
    same x e = grind (arith, nat_tests)

pub port-digits : (xs : List ℕ) → if_there is_port (port_of xs) ≡ true
port-digits [] = refl
port-digits (x ∷ xs) =
    elim (x == 58 && is_port xs) as (λ b. (x == 58 && is_port xs) ≡ b → if_there is_port (cond b (Some xs) (port_of xs)) ≡ true) [
      | true ↦ λ e. (both (x == 58) (is_port xs) e).1
      | false ↦ λ _. port-digits xs
    ] refl

userinfo_rest : (b : List ℕ) (o : Option (List ℕ)) (xs : List ℕ) → b ++ delimited 64 o ≡ xs
    → userinfo_text (cond (is_some o) (Some b) None) ++ or_all xs o ≡ xs
userinfo_rest b None xs h = refl
userinfo_rest b (Some r) xs h = append_assoc b (64 ∷ []) r ∙ h

pub whole : (xs : List ℕ) → userinfo_text (userinfo_of xs) ++ (host_of (after_userinfo xs) ++ delimited 58 (port_of (after_userinfo xs))) ≡ xs
whole xs = ap (λ ys. userinfo_text (userinfo_of xs) ++ ys) (host_port (after_userinfo xs))
    ∙ userinfo_rest (before 64 xs) (after 64 xs) xs (joined 64 xs)

-- ---- what an authority lacks
-- a byte that stands in no part of an authority
pub record IsForeign (s : Tests) (c : ℕ) : Type 0 where
  pub ascii : c < 128
  pub percent : (37 == c) ≡ false
  pub hex : is_ascii_hexdigit c ≡ false
  pub digit : is_ascii_digit c ≡ false
  pub at : (64 == c) ≡ false
  pub colon : (58 == c) ≡ false
  pub userinfo : userinfo_char s c ≡ false
  pub reg_name : reg_name_char s c ≡ false
  pub literal : is_literal_char c ≡ false

pub over_text-lacks : (p : ℕ → Bool) (c : ℕ) (xs : List ℕ) → c < 128 → p c ≡ false → (37 == c) ≡ false → is_ascii_hexdigit c ≡ false
    → text_over p xs ≡ true → lacks c xs ≡ true
over_text-lacks p c xs l pc pe hx h =
    let k = both (is_utf8 xs) (over p (chars xs)) h in text-lacks p c xs (IsUtf8-from_is_utf8 xs k.0) l pc pe hx k.1

userinfo-lacks : (s : Tests) (c : ℕ) (o : Option (List ℕ)) → IsForeign s c → if_there (is_userinfo s) o ≡ true
    → lacks c (userinfo_text o) ≡ true
userinfo-lacks s c None f h = refl
userinfo-lacks s c (Some xs) f h = lacks-append c xs (64 ∷ []) (over_text-lacks (userinfo_char s) c xs f.ascii f.userinfo f.percent f.hex h)
    (lacks-other c 64 [] f.at refl)

pub host-lacks : (s : Tests) (c : ℕ) (xs : List ℕ) → IsForeign s c → is_host s xs ≡ true → lacks c xs ≡ true
host-lacks s c xs f h =
    elim (or_cases (is_ip_literal xs) (is_reg_name s xs) h) [
      | inl k ↦ all-lacks is_literal_char c xs f.literal (ip_literal-chars xs k)
      | inr k ↦ over_text-lacks (reg_name_char s) c xs f.ascii f.reg_name f.percent f.hex k
    ]

port-lacks : (s : Tests) (c : ℕ) (o : Option (List ℕ)) → IsForeign s c → if_there is_port o ≡ true → lacks c (delimited 58 o) ≡ true
port-lacks s c None f h = refl
port-lacks s c (Some xs) f h = lacks-other c 58 xs f.colon (all-lacks is_ascii_digit c xs f.digit h)

pub authority-lacks : (s : Tests) (c : ℕ) (xs : List ℕ) → IsForeign s c → is_authority s xs ≡ true → lacks c xs ≡ true
unfolding is_authority authority_parts
authority-lacks s c xs f h =
    let k = both (if_there (is_userinfo s) (userinfo_of xs)) (is_host s (host_of (after_userinfo xs))) h in
    subst (λ ys. lacks c ys ≡ true) (whole xs)
    (lacks-append c (userinfo_text (userinfo_of xs)) _ (userinfo-lacks s c (userinfo_of xs) f k.0)
    (lacks-append c (host_of (after_userinfo xs)) _ (host-lacks s c (host_of (after_userinfo xs)) f k.1)
    (port-lacks s c (port_of (after_userinfo xs)) f (port-digits (after_userinfo xs)))))

foreign : (s : Tests) → IsSpec s → (c : ℕ) → c < 128 → (37 == c) ≡ false → (64 == c) ≡ false → is_literal_char c ≡ false → IsForeign s c
unfolding userinfo_char reg_name_char is_ascii_userinfo is_ascii_reg_name is_ascii_unreserved is_sub_delim is_literal_char
foreign s k c l p a h = record {
  ascii = l;
  percent = p;
  hex = grind (arith, nat_tests);
  digit = grind (arith, nat_tests);
  at = a;
  colon = grind (arith, nat_tests);
  userinfo = rw (k.ucs_ascii c l) (grind (arith, nat_tests));
  reg_name = rw (k.ucs_ascii c l) (grind (arith, nat_tests));
  literal = h;
}

pub hash-foreign : (s : Tests) → IsSpec s → IsForeign s 35
unfolding is_literal_char is_ascii_userinfo is_ascii_reg_name is_ascii_unreserved is_sub_delim
hash-foreign s k = foreign s k 35 (omega arith) refl refl refl

pub slash-foreign : (s : Tests) → IsSpec s → IsForeign s 47
unfolding is_literal_char is_ascii_userinfo is_ascii_reg_name is_ascii_unreserved is_sub_delim
slash-foreign s k = foreign s k 47 (omega arith) refl refl refl

pub delimiter-foreign : (s : Tests) → IsSpec s → IsForeign s 63
unfolding is_literal_char is_ascii_userinfo is_ascii_reg_name is_ascii_unreserved is_sub_delim
delimiter-foreign s k = foreign s k 63 (omega arith) refl refl refl

-- ---- an authority is UTF-8
pub all_below : (p : ℕ → Bool) → ((c : ℕ) → p c ≡ true → c < 128) → (xs : List ℕ) → list_all p xs ≡ true → IsAscii xs
all_below p l [] h i = omega arith
all_below p l (x ∷ xs) h zero = l x (both (p x) (list_all p xs) h).0
all_below p l (x ∷ xs) h (suc i) = all_below p l xs (both (p x) (list_all p xs) h).1 i

literal-below : (c : ℕ) → is_literal_char c ≡ true → c < 128
unfolding is_literal_char is_ascii_userinfo is_ascii_reg_name is_ascii_unreserved is_sub_delim
literal-below c h = grind (arith, nat_tests)

pub digit-below : (c : ℕ) → is_ascii_digit c ≡ true → c < 128
digit-below c h = grind (arith, nat_tests)

pub text_over-utf8 : (p : ℕ → Bool) (xs : List ℕ) → text_over p xs ≡ true → IsUtf8 xs
text_over-utf8 p xs h = IsUtf8-from_is_utf8 xs (both (is_utf8 xs) (over p (chars xs)) h).0

pub ip_literal-utf8 : (xs : List ℕ) → is_ip_literal xs ≡ true → IsUtf8 xs
ip_literal-utf8 xs h = IsUtf8-from_ascii xs (all_below is_literal_char literal-below xs (ip_literal-chars xs h))

pub port-utf8 : (xs : List ℕ) → is_port xs ≡ true → IsUtf8 xs
port-utf8 xs h = IsUtf8-from_ascii xs (all_below is_ascii_digit digit-below xs h)

pub one_byte-utf8 : (c : ℕ) → c < 128 → IsUtf8 (c ∷ [])
one_byte-utf8 c l = IsUtf8-from_ascii (c ∷ []) (λ i. at i)
  where
    at : (i : ℕ) → slice_index (c ∷ []) i < 128
    at zero = l
    at (suc i) = omega arith

pub delimited-utf8 : (c : ℕ) (xs : List ℕ) → c < 128 → IsUtf8 xs → IsUtf8 (c ∷ xs)
delimited-utf8 c xs l u = IsUtf8-append (c ∷ []) xs (one_byte-utf8 c l) u

pub host-utf8 : (s : Tests) (xs : List ℕ) → is_host s xs ≡ true → IsUtf8 xs
host-utf8 s xs h = elim (or_cases (is_ip_literal xs) (is_reg_name s xs) h) [
  | inl k ↦ ip_literal-utf8 xs k
  | inr k ↦ text_over-utf8 (reg_name_char s) xs k
]

pub nothing-utf8 : IsUtf8 []
nothing-utf8 = IsUtf8-from_ascii [] (λ i. omega arith)

port_text-utf8 : (o : Option (List ℕ)) → if_there is_port o ≡ true → IsUtf8 (delimited 58 o)
port_text-utf8 None h = nothing-utf8
port_text-utf8 (Some xs) h = delimited-utf8 58 xs (omega arith) (port-utf8 xs h)

userinfo_text-utf8 : (s : Tests) (o : Option (List ℕ)) → if_there (is_userinfo s) o ≡ true → IsUtf8 (userinfo_text o)
userinfo_text-utf8 s None h = nothing-utf8
userinfo_text-utf8 s (Some xs) h = IsUtf8-append xs (64 ∷ []) (text_over-utf8 (userinfo_char s) xs h) (one_byte-utf8 64 (omega arith))

pub authority-utf8 : (s : Tests) (xs : List ℕ) → is_authority s xs ≡ true → IsUtf8 xs
unfolding is_authority authority_parts
authority-utf8 s xs h =
    let k = both (if_there (is_userinfo s) (userinfo_of xs)) (is_host s (host_of (after_userinfo xs))) h in
    subst (λ ys. IsUtf8 ys) (whole xs)
    (IsUtf8-append (userinfo_text (userinfo_of xs)) _ (userinfo_text-utf8 s (userinfo_of xs) k.0)
    (IsUtf8-append (host_of (after_userinfo xs)) _ (host-utf8 s (host_of (after_userinfo xs)) k.1)
    (port_text-utf8 (port_of (after_userinfo xs)) (port-digits (after_userinfo xs)))))
