-- The normal form of a host and of an authority (RFC 3986 sections 3.2.2, 6.2.2.1 and 6.2.3, RFC 3987 section 5.3.2).
use Rattle.std.specs.Prelude.{ℕ, Bool, true, false, cond, not, ◌&&◌, ◌==◌, List, [], ◌∷◌, Option, Some, None, nat_lt}
use Rattle.std.specs.Char.{is_ascii_uppercase, to_ascii_lowercase}
use Rattle.std.specs.Str.{bytes_eq}
use Rattle.iri_grammar.specs.Classes.{Tests}
use Rattle.iri_grammar.specs.Authority.{AuthorityParts, authority_parts, recompose_authority}
use Rattle.iri_percent.specs.Units.{octet}
use Rattle.iri_percent.specs.Triplets.{pct, normal}
use Rattle.iri_grammar.specs.Characters.{percent_sign}

abbrev pub octet_below_128 : List ℕ → Bool
octet_below_128 (a ∷ b ∷ xs) = nat_lt (octet a b) 128
octet_below_128 xs = true

-- each character of the host is below 128, and so is the octet of each triplet
unfoldable pub is_ascii_host : List ℕ → Bool
is_ascii_host [] = true
is_ascii_host (x ∷ xs) = nat_lt x 128 && (cond (x == percent_sign) (octet_below_128 xs) true && is_ascii_host xs)

-- triplet normal form, and each letter outside triplets in lower case
abbrev pub lowered_host : Tests → List ℕ → List ℕ
lowered_host s h = normal s to_ascii_lowercase h

-- the normal form of a host. One past ASCII keeps its letters
unfoldable pub normal_host : Tests → List ℕ → List ℕ
normal_host s h = cond (is_ascii_host h) (lowered_host s h) (pct s h)

-- a byte that stays in it: ASCII, no `%` and no capital letter
abbrev pub is_plain_byte : ℕ → Bool
is_plain_byte x = nat_lt x 128 && (not (x == percent_sign) && not (is_ascii_uppercase x))

abbrev pub normal_userinfo : Tests → Option (List ℕ) → Option (List ℕ)
normal_userinfo s None = None
normal_userinfo s (Some u) = Some (pct s u)

-- the port is the one that is dropped, compared as text
abbrev pub is_dropped : Option (List ℕ) → List ℕ → Bool
is_dropped None port = false
is_dropped (Some dropped) port = bytes_eq port dropped

-- a port goes with its colon where it is empty or dropped
abbrev pub normal_port_in : Option (List ℕ) → Option (List ℕ) → Option (List ℕ)
normal_port_in dropped (Some (x ∷ xs)) = cond (is_dropped dropped (x ∷ xs)) None (Some (x ∷ xs))
normal_port_in dropped _ = None

abbrev pub normal_port : Option (List ℕ) → Option (List ℕ)
normal_port port = normal_port_in None port

abbrev pub normal_authority_parts_in : Tests → Option (List ℕ) → AuthorityParts → AuthorityParts
normal_authority_parts_in s dropped a = record {
  userinfo = normal_userinfo s a.userinfo;
  host = normal_host s a.host;
  port = normal_port_in dropped a.port;
}

abbrev pub normal_authority_parts : Tests → AuthorityParts → AuthorityParts
normal_authority_parts s a = normal_authority_parts_in s None a

-- the normal form of an authority: of its userinfo, its host and its port
unfoldable pub normal_authority : Tests → List ℕ → List ℕ
normal_authority s a = recompose_authority (normal_authority_parts s (authority_parts a))

-- the same, without this port
unfoldable pub authority_without : Tests → List ℕ → List ℕ → List ℕ
authority_without s dropped a = recompose_authority (normal_authority_parts_in s (Some dropped) (authority_parts a))

-- the normal form of an authority, without the port that is dropped, where one is
abbrev pub normal_authority_in : Tests → Option (List ℕ) → List ℕ → List ℕ
normal_authority_in s None = normal_authority s
normal_authority_in s (Some dropped) = authority_without s dropped
