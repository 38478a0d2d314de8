-- Each part of a reference has whole triplets.
use Rattle.iri_percent.proofs.Common.{◌≡◌, ℕ, Bool, true, false, cond, ◌||◌, List, [], ◌∷◌, ◌++◌, refl, sym, ◌∙◌, ap, ◌==◌, chars, is_utf8}
use Rattle.iri_percent.proofs.Common.{encode, encodes, encodes-chars, IsUtf8-from_is_utf8, Tests, IsSpec, reg_name_char, userinfo_char}
use Rattle.iri_percent.proofs.Common.{pchar, path_char, query_char, fragment_char, is_ascii_reg_name, is_ascii_userinfo}
use Rattle.iri_percent.proofs.Common.{is_ascii_unreserved, is_sub_delim, is_userinfo, is_path, is_path_segment, is_query, is_fragment}
use Rattle.iri_percent.proofs.Common.{lacks, both, by_test, all-lacks, is_host, is_reg_name, over, text_over, IsOver, two_digits}
use Rattle.iri_percent.proofs.Common.{whole_triplets, class_has_no_percent}
use Rattle.iri_percent.proofs.units.AtStart.{encodes_triplet, lacks_first}
use Rattle.iri_grammar.specs.IpLiteral.{is_ip_literal}
use Rattle.iri_grammar.specs.declared.class.Class.TheVariants.{RegName, Userinfo, Pchar, Path, Query, Fragment}
use Rattle.iri_grammar.proofs.hosts.LiteralChars.{is_literal_char, ip_literal-chars}
use Rattle.iri_grammar.specs.Over.{done, plain, triplet}
use Rattle.iri_grammar.proofs.units.OverLaws.{units-from_over}
use Rattle.iri_percent.proofs.units.WholeTriplets.{whole_plain, whole_triplet}
use Rattle.iri_percent.proofs.forms.Stability.{encode_percent, whole_plains}

whole_nil : whole_triplets [] ≡ true
unfolding whole_triplets
whole_nil = refl

pub lacks-whole : (xs : List ℕ) → lacks 37 xs ≡ true → whole_triplets xs ≡ true
lacks-whole [] h = whole_nil
lacks-whole (x ∷ xs) h = let k = lacks_first x xs h in whole_plain x xs k.0 ∙ lacks-whole xs k.1

-- texts put together
digits-append : (xs ys : List ℕ) → two_digits xs ≡ true → two_digits (xs ++ ys) ≡ true
digits-append [] ys h = cc
digits-append (a ∷ []) ys h = cc
digits-append (a ∷ b ∷ xs) ys h = h

pub whole-append : (xs ys : List ℕ) → whole_triplets xs ≡ true → whole_triplets ys ≡ true → whole_triplets (xs ++ ys) ≡ true
unfolding whole_triplets
whole-append [] ys h k = k
whole-append (x ∷ xs) ys h k =
    let w = both (cond (x == 37) (two_digits xs) true) (whole_triplets xs) h in
    let first : cond (x == 37) (two_digits (xs ++ ys)) true ≡ true = elim (x == 37) as (λ b. cond b (two_digits xs) true ≡ true
    → cond b (two_digits (xs ++ ys)) true ≡ true) [ true ↦ λ d. digits-append xs ys d | false ↦ λ _. refl ] w.0 in
    rw first (whole-append xs ys w.1 k)

-- a text over a class without `%`
over_whole : (p : ℕ → Bool) (cs : List ℕ) → p 37 ≡ false → IsOver p cs → whole_triplets (encodes cs) ≡ true
over_whole p cs n done = whole_nil
over_whole p cs n (plain c ds h r) =
    let other : (c == 37) ≡ false = by_test c 37 (λ b. b ≡ false) (λ e. let no : p c ≡ false = ap p e ∙ n in cc) (λ _. refl) in
    whole_plains (encode c) (encodes ds) (encode_percent c other) ∙ over_whole p ds n r
over_whole p cs n (triplet a b ds ha hb r) =
    ap whole_triplets (encodes_triplet a b ds ha hb) ∙ whole_triplet a b (encodes ds) ha hb ∙ over_whole p ds n r

pub text_over-whole : (p : ℕ → Bool) (xs : List ℕ) → p 37 ≡ false → text_over p xs ≡ true → whole_triplets xs ≡ true
text_over-whole p xs n h =
    let k = both (is_utf8 xs) (over p (chars xs)) h in
    ap whole_triplets (sym (encodes-chars xs (IsUtf8-from_is_utf8 xs k.0))) ∙ over_whole p (chars xs) n (units-from_over p (chars xs) k.1)

-- no class has `%`
pub reg_name_percent : (s : Tests) → IsSpec s → reg_name_char s 37 ≡ false
reg_name_percent s k = class_has_no_percent s k RegName

pub userinfo_percent : (s : Tests) → IsSpec s → userinfo_char s 37 ≡ false
userinfo_percent s k = class_has_no_percent s k Userinfo

pub path_percent : (s : Tests) → IsSpec s → path_char s 37 ≡ false
path_percent s k = class_has_no_percent s k Path

pub query_percent : (s : Tests) → IsSpec s → query_char s 37 ≡ false
query_percent s k = class_has_no_percent s k Query

pub fragment_percent : (s : Tests) → IsSpec s → fragment_char s 37 ≡ false
fragment_percent s k = class_has_no_percent s k Fragment

-- ---- the parts
pub userinfo-whole : (s : Tests) (x : List ℕ) → IsSpec s → is_userinfo s x ≡ true → whole_triplets x ≡ true
userinfo-whole s x k h = text_over-whole (userinfo_char s) x (userinfo_percent s k) h

pub segment-whole : (s : Tests) (x : List ℕ) → IsSpec s → is_path_segment s x ≡ true → whole_triplets x ≡ true
segment-whole s x k h = text_over-whole (pchar s) x (class_has_no_percent s k Pchar) h

pub path-whole : (s : Tests) (x : List ℕ) → IsSpec s → is_path s x ≡ true → whole_triplets x ≡ true
path-whole s x k h = text_over-whole (path_char s) x (path_percent s k) h

pub query-whole : (s : Tests) (x : List ℕ) → IsSpec s → is_query s x ≡ true → whole_triplets x ≡ true
query-whole s x k h = text_over-whole (query_char s) x (query_percent s k) h

pub fragment-whole : (s : Tests) (x : List ℕ) → IsSpec s → is_fragment s x ≡ true → whole_triplets x ≡ true
fragment-whole s x k h = text_over-whole (fragment_char s) x (fragment_percent s k) h

pub literal-lacks : (x : List ℕ) → is_ip_literal x ≡ true → lacks 37 x ≡ true
unfolding is_literal_char is_ascii_userinfo is_ascii_reg_name is_ascii_unreserved is_sub_delim
literal-lacks x h = all-lacks is_literal_char 37 x refl (ip_literal-chars x h)

pub host-whole : (s : Tests) (x : List ℕ) → IsSpec s → is_host s x ≡ true → whole_triplets x ≡ true
host-whole s x k h =
    elim (is_ip_literal x) as (λ b. is_ip_literal x ≡ b → (b || is_reg_name s x) ≡ true → whole_triplets x ≡ true) [
      | true ↦ λ e _. lacks-whole x (literal-lacks x e)
      | false ↦ λ _ r. text_over-whole (reg_name_char s) x (reg_name_percent s k) r
    ] refl h

-- what the law of the parts says of each
pub ruleset parts_whole = (userinfo-whole, host-whole, path-whole, segment-whole, query-whole, fragment-whole)
