-- An IPv6 text read from the left.
use Rattle.std.specs.Prelude.{ℕ, ◌+◌, Bool, true, false, cond, ◌&&◌, ◌==◌, List, Option, Some, None, nat_lt}
use Rattle.iri_grammar.specs.Characters.{colon}
use Rattle.iri_grammar.specs.Ipv6.{are_groups, are_groups_or_ipv4, group_count}
use Rattle.iri_grammar.specs.Ipv6Test.{before_double, after_double, group_texts}
use Rattle.iri_grammar.specs.Pieces.{pieces}

-- the parts are all that is missing after n groups, and after a `::` where that is said
abbrev pub is_whole : Bool → ℕ → List (List ℕ) → Bool
is_whole shortened n ps = are_groups_or_ipv4 ps && cond shortened (nat_lt (n + group_count ps) 8) (n + group_count ps == 8)

-- so are the parts before the first `::`, and those after it
abbrev pub is_whole_around : ℕ → List (List ℕ) → Option (List ℕ) → Bool
is_whole_around n ps None = is_whole false n ps
is_whole_around n ps (Some back) = are_groups ps && is_whole true (n + group_count ps) (group_texts back)

-- the text is what is missing after n groups and a colon, or after a `::` too where that is said
abbrev pub completes : Bool → ℕ → List ℕ → Bool
completes true n t = is_whole true n (pieces colon t)
completes false n t = is_whole_around n (pieces colon (before_double t)) (after_double t)
