-- Worked examples of RFC 3986, computed.
use Rattle.std.specs.Prelude.{◌≡◌, ℕ, List, Option, [], Some, None, codes, refl}
use lib.Utf8.{encode}
use Rattle.std.specs.Str.{chars, is_utf8}
use Rattle.iri_grammar.specs.Classes.{uri_tests, userinfo_char, reg_name_char, path_char, query_char, fragment_char, is_ascii_userinfo}
use Rattle.iri_grammar.specs.Classes.{is_ascii_reg_name, is_ascii_path, is_ascii_pchar, is_ascii_query, is_ascii_unreserved, is_sub_delim}
use Rattle.iri_grammar.specs.Over.{over_from}
use Rattle.iri_grammar.specs.Components.{is_letter, is_scheme_char}
use Rattle.iri_grammar.specs.Ipv6.{is_group}
use Rattle.iri_grammar.specs.Authority.{authority_parts}
use Rattle.iri_grammar.specs.Parts.{Parts, recompose}
use Rattle.iri_grammar.specs.Split.{split_of, relative_split_of}
use Rattle.iri_grammar.specs.WholeFault.{fault_before_fragment, parts_fault, reference_fault, iri_fault, absolute_fault, relative_fault}
use Rattle.iri_grammar.specs.declared.error.ErrorKind.TheVariants.{InvalidScheme, InvalidUserInfo, InvalidHost, InvalidPath, InvalidQuery}
use Rattle.iri_grammar.specs.declared.error.ErrorKind.TheVariants.{InvalidFragment, UnexpectedFragment, UnexpectedRelative}

-- ---- the parts
abbrev five : (scheme authority : Option (List ℕ)) (path : List ℕ) (query fragment : Option (List ℕ)) → Parts
five scheme authority path query fragment =
    record { scheme = scheme; authority = authority; path = path; query = query; fragment = fragment }

-- the two URIs of section 3
two_uris :
    (split_of (codes "foo://example.com:8042/over/there?name=ferret#nose") ≡ five (Some (codes "foo")) (Some (codes "example.com:8042")) (codes "/over/there") (Some (codes "name=ferret")) (Some (codes "nose")))
    × (split_of (codes "urn:example:animal:ferret:nose") ≡ five (Some (codes "urn")) None (codes "example:animal:ferret:nose") None None)
unfolding split_of is_letter is_scheme_char
two_uris = (refl, refl)

-- URIs of section 1.1.2
example_uris :
    (split_of (codes "ftp://ftp.is.co.za/rfc/rfc1808.txt") ≡ five (Some (codes "ftp")) (Some (codes "ftp.is.co.za")) (codes "/rfc/rfc1808.txt") None None)
    × (split_of (codes "ldap://[2001:db8::7]/c=GB?objectClass?one") ≡ five (Some (codes "ldap")) (Some (codes "[2001:db8::7]")) (codes "/c=GB") (Some (codes "objectClass?one")) None)
    × (split_of (codes "mailto:John.Doe@example.com") ≡ five (Some (codes "mailto")) None (codes "John.Doe@example.com") None None)
    × (split_of (codes "telnet://192.0.2.16:80/") ≡ five (Some (codes "telnet")) (Some (codes "192.0.2.16:80")) (codes "/") None None)
unfolding split_of is_letter is_scheme_char
example_uris = (refl, refl, refl, refl)

-- references of section 5.4
references :
    (split_of (codes "g:h") ≡ five (Some (codes "g")) None (codes "h") None None)
    × (split_of (codes "//g") ≡ five None (Some (codes "g")) [] None None)
    × (split_of (codes "?y") ≡ five None None [] (Some (codes "y")) None)
    × (split_of (codes "g?y#s") ≡ five None None (codes "g") (Some (codes "y")) (Some (codes "s")))
    × (split_of [] ≡ five None None [] None None)
    × (split_of (codes "g;x=1/./y") ≡ five None None (codes "g;x=1/./y") None None)
    × (split_of (codes "g?y/../x") ≡ five None None (codes "g") (Some (codes "y/../x")) None)
    × (split_of (codes "g#s/../x") ≡ five None None (codes "g") None (Some (codes "s/../x")))
unfolding split_of is_letter is_scheme_char
references = (refl, refl, refl, refl, refl, refl, refl, refl)

-- the first delimiter decides: a `?` after the `#` is the fragment's, and a `:` after `/`, `?` or `#` begins no scheme
delimiters :
    (split_of (codes "a#b?c") ≡ five None None (codes "a") None (Some (codes "b?c")))
    × (split_of (codes "?a:b") ≡ five None None [] (Some (codes "a:b")) None)
    × (split_of (codes "./a:b") ≡ five None None (codes "./a:b") None None)
    × (split_of (codes "//a:b") ≡ five None (Some (codes "a:b")) [] None None)
unfolding split_of is_letter is_scheme_char
delimiters = (refl, refl, refl, refl)

-- recomposition (section 5.3) gives the texts back
recomposed :
    (recompose (split_of (codes "foo://example.com:8042/over/there?name=ferret#nose"))
    ≡ codes "foo://example.com:8042/over/there?name=ferret#nose")
    × (recompose (split_of (codes "//g?y#s")) ≡ codes "//g?y#s")
    × (recompose (split_of (codes "mailto:John.Doe@example.com")) ≡ codes "mailto:John.Doe@example.com")
unfolding split_of recompose is_letter is_scheme_char
recomposed = (refl, refl, refl)

-- ---- the first fault
-- the URIs of section 1.1.2 have none
no_fault :
    (absolute_fault uri_tests (codes "ftp://ftp.is.co.za/rfc/rfc1808.txt") ≡ None)
    × (absolute_fault uri_tests (codes "http://www.ietf.org/rfc/rfc2396.txt") ≡ None)
    × (absolute_fault uri_tests (codes "ldap://[2001:db8::7]/c=GB?objectClass?one") ≡ None)
    × (absolute_fault uri_tests (codes "mailto:John.Doe@example.com") ≡ None)
    × (absolute_fault uri_tests (codes "news:comp.infosystems.www.servers.unix") ≡ None)
    × (absolute_fault uri_tests (codes "tel:+1-816-555-1212") ≡ None)
    × (absolute_fault uri_tests (codes "telnet://192.0.2.16:80/") ≡ None)
    × (absolute_fault uri_tests (codes "urn:oasis:names:specification:docbook:dtd:xml:4.1.2") ≡ None)
unfolding split_of relative_split_of fault_before_fragment parts_fault authority_parts over_from chars is_utf8 encode is_letter is_scheme_char
    userinfo_char reg_name_char path_char query_char fragment_char is_ascii_userinfo is_ascii_reg_name is_ascii_path is_ascii_pchar
    is_ascii_query is_ascii_unreserved is_sub_delim is_group
no_fault = (refl, refl, refl, refl, refl, refl, refl, refl)

-- a text with a fault in one part, and texts with several, of which the first is told
fault_of_each_part :
    (reference_fault uri_tests (codes "1a:b") ≡ Some InvalidPath)
    × (reference_fault uri_tests (codes "##") ≡ Some InvalidFragment)
    × (reference_fault uri_tests (codes "%4") ≡ Some InvalidPath)
    × (reference_fault uri_tests (codes "?%") ≡ Some InvalidQuery)
    × (reference_fault uri_tests (codes "//a b@c") ≡ Some InvalidUserInfo)
    × (reference_fault uri_tests (codes "//a@b@c") ≡ Some InvalidHost)
    × (reference_fault uri_tests (codes "//[1::2::3]") ≡ Some InvalidHost)
    × (reference_fault uri_tests (codes "http:g") ≡ None)
    × (reference_fault uri_tests (codes "//a b@[?%#%") ≡ Some InvalidUserInfo)
    × (reference_fault uri_tests (codes "//[?%#%") ≡ Some InvalidHost)
    × (reference_fault uri_tests (codes "%?%#%") ≡ Some InvalidPath)
    × (reference_fault uri_tests (codes "?%#%") ≡ Some InvalidQuery)
unfolding split_of relative_split_of fault_before_fragment parts_fault authority_parts over_from chars is_utf8 encode is_letter is_scheme_char
    userinfo_char reg_name_char path_char query_char fragment_char is_ascii_userinfo is_ascii_reg_name is_ascii_path is_ascii_pchar
    is_ascii_query is_ascii_unreserved is_sub_delim is_group
fault_of_each_part = (refl, refl, refl, refl, refl, refl, refl, refl, refl, refl, refl, refl)

-- where a scheme must stand
scheme_asked :
    (iri_fault uri_tests (codes "a/b") ≡ Some UnexpectedRelative)
    × (iri_fault uri_tests (codes "1a:b") ≡ Some InvalidScheme)
    × (iri_fault uri_tests (codes "//a?b:c") ≡ Some InvalidScheme)
    × (absolute_fault uri_tests (codes "a/b") ≡ Some UnexpectedRelative)
    × (absolute_fault uri_tests (codes "http://a/#f") ≡ Some UnexpectedFragment)
    × (absolute_fault uri_tests (codes "http://a/?%#f") ≡ Some InvalidQuery)
    × (iri_fault uri_tests (codes "http://a/#f") ≡ None)
    × (relative_fault uri_tests (codes "http:g") ≡ Some InvalidPath)
    × (relative_fault uri_tests (codes "./http:g") ≡ None)
unfolding split_of relative_split_of fault_before_fragment parts_fault authority_parts over_from chars is_utf8 encode is_letter is_scheme_char
    userinfo_char reg_name_char path_char query_char fragment_char is_ascii_userinfo is_ascii_reg_name is_ascii_path is_ascii_pchar
    is_ascii_query is_ascii_unreserved is_sub_delim is_group
scheme_asked = (refl, refl, refl, refl, refl, refl, refl, refl, refl)
