-- The test for IPv6 texts. That it tells `IsIpv6` is a law.
use Rattle.std.specs.Prelude.{ℕ, ◌+◌, Bool, cond, ◌&&◌, ◌==◌, List, [], ◌∷◌, Option, Some, None, nat_lt}
use Rattle.iri_grammar.specs.Cut.{tail}
pub use Rattle.iri_grammar.specs.Cut.{begins}
use Rattle.iri_grammar.specs.Pieces.{pieces}
use Rattle.iri_grammar.specs.Ipv6.{are_groups, are_groups_or_ipv4, group_count}
use Rattle.iri_grammar.specs.Characters.{colon}

-- what stands before the first `::`, or all
abbrev pub before_double : List ℕ → List ℕ
before_double [] = []
before_double (x ∷ xs) = cond (x == colon && begins colon xs) [] (x ∷ before_double xs)

-- what stands after the first `::`, where there is one
abbrev pub after_double : List ℕ → Option (List ℕ)
after_double [] = None
after_double (x ∷ xs) = cond (x == colon && begins colon xs) (Some (tail xs)) (after_double xs)

-- the parts between the colons; the empty text has none
abbrev pub group_texts : List ℕ → List (List ℕ)
group_texts [] = []
group_texts (x ∷ xs) = pieces colon (x ∷ xs)

abbrev pub is_full : List (List ℕ) → Bool
is_full ps = are_groups_or_ipv4 ps && group_count ps == 8

abbrev pub is_shortened : List (List ℕ) → List (List ℕ) → Bool
is_shortened prefix back = are_groups prefix && are_groups_or_ipv4 back && nat_lt (group_count prefix + group_count back) 8

abbrev pub is_ipv6_around : List ℕ → Option (List ℕ) → Bool
is_ipv6_around prefix None = is_full (group_texts prefix)
is_ipv6_around prefix (Some back) = is_shortened (group_texts prefix) (group_texts back)

abbrev pub is_ipv6 : List ℕ → Bool
is_ipv6 t = is_ipv6_around (before_double t) (after_double t)
