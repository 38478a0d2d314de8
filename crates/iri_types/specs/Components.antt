-- What the components of an authority hold.
use Rattle.std.specs.Prelude.{ℕ, Bool, cond, not, ◌||◌, List, Option, Some, None}
use Rattle.iri_grammar.specs.IpLiteral.{is_ip_literal}
use Rattle.iri_grammar.specs.Ipv4.{is_ipv4}

-- a host that is no IP literal and no IPv4 text (RFC 3986 section 3.2.2)
abbrev pub is_named : List ℕ → Bool
is_named h = not (is_ip_literal h || is_ipv4 h)

-- the host, where it is a registered name
abbrev pub reg_name_of : List ℕ → Option (List ℕ)
reg_name_of h = cond (is_named h) (Some h) None
