-- IP literals (RFC 3986 section 3.2.2).
use Rattle.std.specs.Prelude.{ℕ, Bool, true, false, ◌&&◌, ◌||◌, ◌==◌, List, [], ◌∷◌, Option, Some, None}
use Rattle.std.specs.Char.{is_ascii_hexdigit}
use Rattle.std.specs.List.{list_all}
use Rattle.iri_grammar.specs.Classes.{is_ascii_userinfo}
use Rattle.iri_grammar.specs.Cut.{before, after}
use Rattle.iri_grammar.specs.Ipv6Test.{is_ipv6}
use Rattle.iri_grammar.specs.Characters.{dot, left_bracket, right_bracket}

-- one or more of these
abbrev pub some_of : (ℕ → Bool) → List ℕ → Bool
some_of p [] = false
some_of p (x ∷ xs) = list_all p (x ∷ xs)

abbrev pub is_future_address : Option (List ℕ) → Bool
is_future_address None = false
is_future_address (Some a) = some_of is_ascii_userinfo a

-- `IPvFuture`: `v` or `V`, hex digits, a dot, and characters that are unreserved, sub-delims or `:`, all ASCII
abbrev pub is_ipvfuture : List ℕ → Bool
is_ipvfuture [] = false
is_ipvfuture (v ∷ t) = (v == 118 || v == 86) && some_of is_ascii_hexdigit (before dot t) && is_future_address (after dot t)

abbrev pub is_end : Option (List ℕ) → Bool
is_end (Some []) = true
is_end _ = false

-- `IP-literal`: an IPv6 text or an IPvFuture in brackets
abbrev pub is_ip_literal : List ℕ → Bool
is_ip_literal [] = false
is_ip_literal (b ∷ t) = b == left_bracket && is_end (after right_bracket t)
    && (is_ipv6 (before right_bracket t) || is_ipvfuture (before right_bracket t))
