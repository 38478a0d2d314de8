-- A class is its ASCII part and its part past ASCII.
use Rattle.iri_grammar.proofs.Common.{◌≡◌, ℕ, ◌≤◌, ◌<◌, true, false, refl, sym, ◌∙◌, inl, inr, arith, cases_lt, nat_tests, class_test}
use Rattle.iri_grammar.proofs.Common.{ascii_test, Class, Unreserved, RegName, Userinfo, Pchar, Path, Query, Fragment, Any}
use Rattle.std.proofs.Math.Bool.{or-false}
use Rattle.iri_grammar.specs.Classes.{Tests, IsSpec, is_ascii_unreserved, is_ascii_reg_name, is_ascii_userinfo, is_ascii_pchar}
use Rattle.iri_grammar.specs.Classes.{is_ascii_path, is_ascii_query, is_ascii_any, is_sub_delim, is_gen_delim, unreserved, reg_name_char}
use Rattle.iri_grammar.specs.Classes.{userinfo_char, pchar, path_char, query_char, fragment_char, any_char}
use Rattle.iri_grammar.specs.ClassTests.{past_ascii_test}

-- of an ASCII character the spec's tests say nothing
pub class_at_ascii : (s : Tests) → IsSpec s → (k : Class) (c : ℕ) → c < 128 → class_test s k c ≡ ascii_test k c
unfolding unreserved reg_name_char userinfo_char pchar path_char query_char fragment_char any_char
class_at_ascii s l Unreserved c h = rw (l.ucs_ascii c h) (or-false (is_ascii_unreserved c))
class_at_ascii s l RegName c h = rw (l.ucs_ascii c h) (or-false (is_ascii_reg_name c))
class_at_ascii s l Userinfo c h = rw (l.ucs_ascii c h) (or-false (is_ascii_userinfo c))
class_at_ascii s l Pchar c h = rw (l.ucs_ascii c h) (or-false (is_ascii_pchar c))
class_at_ascii s l Path c h = rw (l.ucs_ascii c h) (or-false (is_ascii_path c))
class_at_ascii s l Query c h = rw (l.ucs_ascii c h, l.priv_ascii c h, or-false (is_ascii_query c)) (or-false (is_ascii_query c))
class_at_ascii s l Fragment c h = rw (l.ucs_ascii c h) (or-false (is_ascii_query c))
class_at_ascii s l Any c h = rw (l.ucs_ascii c h, l.priv_ascii c h, or-false (is_ascii_any c)) (or-false (is_ascii_any c))

-- no ASCII part reaches past ASCII
pub ascii_test_past : (k : Class) (c : ℕ) → 128 ≤ c → ascii_test k c ≡ false
unfolding is_ascii_unreserved is_ascii_reg_name is_ascii_userinfo is_ascii_pchar is_ascii_path is_ascii_query is_ascii_any is_sub_delim
    is_gen_delim
ascii_test_past Unreserved c h = grind (arith, nat_tests)
ascii_test_past RegName c h = grind (arith, nat_tests)
ascii_test_past Userinfo c h = grind (arith, nat_tests)
ascii_test_past Pchar c h = grind (arith, nat_tests)
ascii_test_past Path c h = grind (arith, nat_tests)
ascii_test_past Query c h = grind (arith, nat_tests)
ascii_test_past Fragment c h = grind (arith, nat_tests)
ascii_test_past Any c h = grind (arith, nat_tests)

pub class_past_ascii : (s : Tests) (k : Class) (c : ℕ) → 128 ≤ c → class_test s k c ≡ past_ascii_test s k c
unfolding unreserved reg_name_char userinfo_char pchar path_char query_char fragment_char any_char
class_past_ascii s Unreserved c h = rw (ascii_test_past Unreserved c h) refl
class_past_ascii s RegName c h = rw (ascii_test_past RegName c h) refl
class_past_ascii s Userinfo c h = rw (ascii_test_past Userinfo c h) refl
class_past_ascii s Pchar c h = rw (ascii_test_past Pchar c h) refl
class_past_ascii s Path c h = rw (ascii_test_past Path c h) refl
class_past_ascii s Query c h = rw (ascii_test_past Query c h) refl
class_past_ascii s Fragment c h = rw (ascii_test_past Fragment c h) refl
class_past_ascii s Any c h = rw (ascii_test_past Any c h) refl

-- `%` is in no class
pub no_percent : (k : Class) → ascii_test k 37 ≡ false
unfolding is_ascii_unreserved is_ascii_reg_name is_ascii_userinfo is_ascii_pchar is_ascii_path is_ascii_query is_ascii_any is_sub_delim
    is_gen_delim
no_percent Unreserved = refl
no_percent RegName = refl
no_percent Userinfo = refl
no_percent Pchar = refl
no_percent Path = refl
no_percent Query = refl
no_percent Fragment = refl
no_percent Any = refl

pub class_has_no_percent : (s : Tests) → IsSpec s → (k : Class) → class_test s k 37 ≡ false
class_has_no_percent s l k = class_at_ascii s l k 37 (omega arith) ∙ no_percent k

pub ascii_test_below : (k : Class) (c : ℕ) → ascii_test k c ≡ true → c < 128
ascii_test_below k c h =
    elim (cases_lt c 128) [ inl lt ↦ lt | inr ge ↦ let clash : true ≡ false = sym h ∙ ascii_test_past k c ge in cc ]

-- an ASCII character of a class is in the class
pub class_has_ascii : (s : Tests) → IsSpec s → (k : Class) (c : ℕ) → ascii_test k c ≡ true → (c < 128) × (class_test s k c ≡ true)
class_has_ascii s l k c h = (ascii_test_below k c h, class_at_ascii s l k c (ascii_test_below k c h) ∙ h)
