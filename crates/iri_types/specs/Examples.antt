-- Worked examples of RFC 3986, computed.
use Rattle.std.specs.Prelude.{◌≡◌, ◌++◌, Some, None, codes, refl}
use Rattle.iri_grammar.specs.Authority.{authority_parts}
use Rattle.iri_grammar.specs.Components.{is_letter, is_scheme_char}
use Rattle.iri_grammar.specs.Cut.{before, delimited}
use Rattle.iri_grammar.specs.Ipv4.{is_hundreds}
use Rattle.iri_grammar.specs.Ipv6.{is_group}
use Rattle.iri_grammar.specs.Split.{split_of}
use Rattle.iri_types.specs.Components.{reg_name_of}

-- the hosts of section 1.1.2: names, an address of IPv4 and one of IPv6
named_hosts :
    (reg_name_of (codes "ftp.is.co.za") ≡ Some (codes "ftp.is.co.za"))
    × (reg_name_of (authority_parts (codes "192.0.2.16:80")).host ≡ None)
    × (reg_name_of (codes "[2001:db8::7]") ≡ None)
unfolding authority_parts is_group is_hundreds
named_hosts = (refl, refl, refl)

-- an address of IPv4 has four numbers up to 255 without leading zeros (section 3.2.2); other texts of digits and dots are names
names_of_digits :
    (reg_name_of (codes "192.0.2.256") ≡ Some (codes "192.0.2.256"))
    × (reg_name_of (codes "192.0.2") ≡ Some (codes "192.0.2"))
    × (reg_name_of (codes "192.0.2.016") ≡ Some (codes "192.0.2.016"))
unfolding is_group is_hundreds
names_of_digits = (refl, refl, refl)

-- the URI of section 3 cut at its fragment, and both joined
cut_at_the_fragment :
    (before 35 (codes "foo://example.com:8042/over/there?name=ferret#nose") ≡ codes "foo://example.com:8042/over/there?name=ferret")
    × ((split_of (codes "foo://example.com:8042/over/there?name=ferret#nose")).fragment ≡ Some (codes "nose"))
    × (before 35 (codes "foo://example.com:8042/over/there?name=ferret#nose") ++ delimited 35 (Some (codes "nose"))
    ≡ codes "foo://example.com:8042/over/there?name=ferret#nose")
unfolding split_of is_letter is_scheme_char
cut_at_the_fragment = (refl, refl, refl)
