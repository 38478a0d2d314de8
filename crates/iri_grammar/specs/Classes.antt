-- The two tests that a spec gives, and the classes of characters (RFC 3986 sections 2 and 3, RFC 3987 section 2.2). A character is its code.
use Rattle.std.specs.Prelude.{◌≡◌, ℕ, ◌<◌, ◌≤◌, ◌%◌, Bool, true, false, ◌&&◌, ◌||◌, codes, nat_lt}
use Rattle.std.specs.Char.{is_ascii_alphanumeric, char_set_contains}
use Rattle.std.specs.Int.{is_in_range}

-- the tests of a spec: a character past ASCII that is unreserved, and one for private use
pub record Tests : Type 0 where
  pub ucs : ℕ → Bool
  pub priv : ℕ → Bool

-- the laws of a spec: both tests fail below 128, and no character passes both
pub record IsSpec (s : Tests) : Type 0 where
  pub ucs_ascii : (c : ℕ) → c < 128 → s.ucs c ≡ false
  pub priv_ascii : (c : ℕ) → c < 128 → s.priv c ≡ false
  pub apart : (c : ℕ) → (s.ucs c && s.priv c) ≡ false

-- the ASCII part of `unreserved` (RFC 3986 section 2.3)
unfoldable pub is_ascii_unreserved : ℕ → Bool
is_ascii_unreserved c = is_ascii_alphanumeric c || char_set_contains (codes "-._~") c

-- `sub-delims` and `gen-delims` (RFC 3986 section 2.2)
unfoldable pub is_sub_delim : ℕ → Bool
is_sub_delim c = char_set_contains (codes "!$&'()*+,;=") c

unfoldable pub is_gen_delim : ℕ → Bool
is_gen_delim c = char_set_contains (codes ":/?#[]@") c

-- the ASCII parts of the other classes
unfoldable pub is_ascii_reg_name : ℕ → Bool
is_ascii_reg_name c = is_ascii_unreserved c || is_sub_delim c

unfoldable pub is_ascii_userinfo : ℕ → Bool
is_ascii_userinfo c = is_ascii_reg_name c || char_set_contains (codes ":") c

unfoldable pub is_ascii_pchar : ℕ → Bool
is_ascii_pchar c = is_ascii_reg_name c || char_set_contains (codes ":@") c

unfoldable pub is_ascii_path : ℕ → Bool
is_ascii_path c = is_ascii_pchar c || char_set_contains (codes "/") c

unfoldable pub is_ascii_query : ℕ → Bool
is_ascii_query c = is_ascii_pchar c || char_set_contains (codes "/?") c

unfoldable pub is_ascii_any : ℕ → Bool
is_ascii_any c = is_ascii_reg_name c || is_gen_delim c

-- the classes: `unreserved`, and the characters of `reg-name`, `userinfo`, a segment, a path, `query` and `fragment`
unfoldable pub unreserved : Tests → ℕ → Bool
unreserved s c = is_ascii_unreserved c || s.ucs c

unfoldable pub reg_name_char : Tests → ℕ → Bool
reg_name_char s c = is_ascii_reg_name c || s.ucs c

unfoldable pub userinfo_char : Tests → ℕ → Bool
userinfo_char s c = is_ascii_userinfo c || s.ucs c

unfoldable pub pchar : Tests → ℕ → Bool
pchar s c = is_ascii_pchar c || s.ucs c

unfoldable pub path_char : Tests → ℕ → Bool
path_char s c = is_ascii_path c || s.ucs c

-- characters for private use stand in a query alone
unfoldable pub query_char : Tests → ℕ → Bool
query_char s c = is_ascii_query c || s.ucs c || s.priv c

unfoldable pub fragment_char : Tests → ℕ → Bool
fragment_char s c = is_ascii_query c || s.ucs c

-- any character of a reference outside triplets
unfoldable pub any_char : Tests → ℕ → Bool
any_char s c = is_ascii_any c || s.ucs c || s.priv c

-- `ucschar` (RFC 3987 section 2.2): of planes 1 to 13 all but the last two characters, of plane 14 those from E1000 on
unfoldable pub is_ucschar_plane : ℕ → Bool
is_ucschar_plane c = (is_in_range 0x10000 0xDFFFF c && nat_lt (c % 0x10000) 0xFFFE) || is_in_range 0xE1000 0xEFFFD c

unfoldable pub is_ucschar : ℕ → Bool
is_ucschar c = is_in_range 0xA0 0xD7FF c || is_in_range 0xF900 0xFDCF c || is_in_range 0xFDF0 0xFFEF c || is_ucschar_plane c

-- all characters of the first range of `ucschar` pass as unreserved
abbrev pub HasFirstUcschars : Tests → Type 0
HasFirstUcschars s = (c : ℕ) → 0xA0 ≤ c → c ≤ 0xD7FF → s.ucs c ≡ true

-- `iprivate` (RFC 3987 section 2.2)
unfoldable pub is_iprivate : ℕ → Bool
is_iprivate c = is_in_range 0xE000 0xF8FF c || is_in_range 0xF0000 0xFFFFD c || is_in_range 0x100000 0x10FFFD c

-- the tests of URIs and of IRIs
abbrev pub uri_tests : Tests
uri_tests = record { ucs = λ _. false; priv = λ _. false }

abbrev pub iri_tests : Tests
iri_tests = record { ucs = is_ucschar; priv = is_iprivate }
