-- IPv6 texts (RFC 3986 section 3.2.2).
use Rattle.std.specs.Prelude.{◌≡◌, ℕ, ◌+◌, ◌≤◌, ◌⊎◌, Bool, true, cond, ◌&&◌, ◌||◌, List, [], ◌∷◌, ◌++◌, length, nat_lt}
use Rattle.std.specs.Char.{is_ascii_hexdigit}
use Rattle.std.specs.List.{list_all}
use Rattle.iri_grammar.specs.Pieces.{joined}
use Rattle.iri_grammar.specs.Ipv4.{is_ipv4}
use Rattle.iri_grammar.specs.Characters.{colon}

-- `h16`, a group: one to four hex digits
unfoldable pub is_group : List ℕ → Bool
is_group p = list_all is_ascii_hexdigit p && nat_lt 0 (length p) && nat_lt (length p) 5

-- each part is a group
abbrev pub are_groups : List (List ℕ) → Bool
are_groups ps = list_all is_group ps

-- each part is a group, and the last one may be an IPv4 text instead
abbrev pub are_groups_or_ipv4 : List (List ℕ) → Bool
are_groups_or_ipv4 [] = true
are_groups_or_ipv4 (p ∷ []) = is_group p || is_ipv4 p
are_groups_or_ipv4 (p ∷ q ∷ ps) = is_group p && are_groups_or_ipv4 (q ∷ ps)

-- how many groups the parts are; an IPv4 text counts as two
abbrev pub group_count : List (List ℕ) → ℕ
group_count [] = 0
group_count (p ∷ ps) = cond (is_ipv4 p) 2 1 + group_count ps

-- eight groups with colons between them, and no `::`
pub record IsFullIpv6 (t : List ℕ) : Type 0 where
  pub parts : List (List ℕ)
  pub groups : are_groups_or_ipv4 parts ≡ true
  pub text : t ≡ joined colon parts
  pub count : group_count parts ≡ 8

-- one `::` and at most seven groups; an IPv4 text may stand at the end alone
pub record IsShortenedIpv6 (t : List ℕ) : Type 0 where
  pub prefix : List (List ℕ)
  pub back : List (List ℕ)
  pub prefix_groups : are_groups prefix ≡ true
  pub back_groups : are_groups_or_ipv4 back ≡ true
  pub text : t ≡ joined colon prefix ++ (colon ∷ colon ∷ joined colon back)
  pub count : group_count prefix + group_count back ≤ 7

-- `IPv6address`
abbrev pub IsIpv6 : List ℕ → Type 0
IsIpv6 t = IsFullIpv6 t ⊎ IsShortenedIpv6 t
