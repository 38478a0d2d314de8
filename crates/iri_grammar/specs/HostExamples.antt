-- Hosts and authorities, computed.
use Rattle.std.specs.Prelude.{◌≡◌, true, false, [], ◌∷◌, Some, None, codes, map, refl}
use Rattle.iri_grammar.specs.Classes.{is_ascii_userinfo, is_ascii_reg_name, is_ascii_unreserved, is_sub_delim}
use Rattle.iri_grammar.specs.Ipv4.{is_ipv4, is_hundreds}
use Rattle.iri_grammar.specs.Ipv6.{is_group}
use Rattle.iri_grammar.specs.Ipv6Test.{is_ipv6}
use Rattle.iri_grammar.specs.IpLiteral.{is_ipvfuture}
use Rattle.iri_grammar.specs.Authority.{authority_parts}

-- `::` stands for one group or more, at the start and at the end too; eight groups need none, and an IPv4 text counts as two
ipv6_texts :
    map is_ipv6 (codes "::" ∷ codes "::1" ∷ codes "1::" ∷ codes "1:2:3:4:5:6:7::" ∷ codes "2001:db8:0:0:0:0:0:7" ∷ codes "::1.2.3.4" ∷ [])
    ≡ true ∷ true ∷ true ∷ true ∷ true ∷ true ∷ []
unfolding is_group is_hundreds
ipv6_texts = refl

-- nine groups, also with `::` for one; two `::`; three colons; nine groups with an IPv4 text; one that isn't last, is too short or
-- has a leading zero; a group of five digits
no_ipv6_texts :
    map is_ipv6 (codes "1:2:3:4:5:6:7:8:9" ∷ codes "1:2:3:4:5:6:7:8::" ∷ codes "1::2::3" ∷ codes ":::" ∷ codes "1:2:3:4:5:6:7:1.2.3.4"
    ∷ codes "1.2.3.4::" ∷ codes "::1.2.3" ∷ codes "::01.2.3.4" ∷ codes "12345::" ∷ [])
    ≡ false ∷ false ∷ false ∷ false ∷ false ∷ false ∷ false ∷ false ∷ false ∷ []
unfolding is_group is_hundreds
no_ipv6_texts = refl

-- an IPvFuture has a version
ipvfuture_texts : map is_ipvfuture (codes "v1.a" ∷ codes "V1F.:" ∷ codes "v.a" ∷ []) ≡ true ∷ true ∷ false ∷ []
unfolding is_ascii_userinfo is_ascii_reg_name is_ascii_unreserved is_sub_delim
ipvfuture_texts = refl

-- the numbers of an IPv4 text are at most 255 and have no leading zero
ipv4_texts : map is_ipv4 (codes "255.255.255.255" ∷ codes "255.255.255.256" ∷ codes "127.0.0.01" ∷ []) ≡ true ∷ false ∷ false ∷ []
unfolding is_hundreds
ipv4_texts = refl

-- the reading of an authority
authorities :
    (authority_parts (codes "user:pw@[::1]:80")
    ≡ record { userinfo = Some (codes "user:pw"); host = codes "[::1]"; port = Some (codes "80") })
    × (authority_parts (codes "[2001:db8::7]") ≡ record { userinfo = None; host = codes "[2001:db8::7]"; port = None })
    × (authority_parts (codes "example.com:") ≡ record { userinfo = None; host = codes "example.com"; port = Some [] })
unfolding authority_parts
authorities = (refl, refl, refl)
