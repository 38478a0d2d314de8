-- The classes by name.
use Rattle.std.specs.Prelude.{ℕ, Bool, ◌||◌}
use Rattle.iri_grammar.specs.Classes.{Tests, is_ascii_unreserved, is_ascii_reg_name, is_ascii_userinfo, is_ascii_pchar, is_ascii_path}
use Rattle.iri_grammar.specs.Classes.{is_ascii_query, is_ascii_any, unreserved, reg_name_char, userinfo_char, pchar, path_char, query_char}
use Rattle.iri_grammar.specs.Classes.{fragment_char, any_char}
use Rattle.iri_grammar.specs.declared.class.Class.{Class}
use Rattle.iri_grammar.specs.declared.class.Class.TheVariants.{Unreserved, RegName, Userinfo, Pchar, Path, Query, Fragment, Any}

-- which characters a class has
abbrev pub class_test : Tests → Class → ℕ → Bool
class_test s Unreserved = unreserved s
class_test s RegName = reg_name_char s
class_test s Userinfo = userinfo_char s
class_test s Pchar = pchar s
class_test s Path = path_char s
class_test s Query = query_char s
class_test s Fragment = fragment_char s
class_test s Any = any_char s

-- which ASCII characters it has
abbrev pub ascii_test : Class → ℕ → Bool
ascii_test Unreserved = is_ascii_unreserved
ascii_test RegName = is_ascii_reg_name
ascii_test Userinfo = is_ascii_userinfo
ascii_test Pchar = is_ascii_pchar
ascii_test Path = is_ascii_path
ascii_test Query = is_ascii_query
ascii_test Fragment = is_ascii_query
ascii_test Any = is_ascii_any

-- which characters past ASCII it has
abbrev pub past_ascii_test : Tests → Class → ℕ → Bool
past_ascii_test s Query c = s.ucs c || s.priv c
past_ascii_test s Any c = s.ucs c || s.priv c
past_ascii_test s _ c = s.ucs c

-- the ASCII parts grow in this order; the widest part that a class holds, as a digit
abbrev pub rank_of : Class → ℕ
rank_of Unreserved = 48
rank_of RegName = 49
rank_of Userinfo = 50
rank_of Pchar = 51
rank_of Path = 52
rank_of Query = 53
rank_of Fragment = 53
rank_of Any = 54
