-- Encoding, computed.
use Rattle.std.specs.Prelude.{◌≡◌, ◌++◌, codes, refl}
use Rattle.std.specs.Str.{chars}
use lib.Utf8.{encode}
use Rattle.iri_grammar.specs.Classes.{uri_tests, iri_tests, userinfo_char, pchar, query_char, any_char, unreserved, is_ascii_unreserved}
use Rattle.iri_grammar.specs.Classes.{is_ascii_reg_name, is_ascii_userinfo, is_ascii_pchar, is_ascii_query, is_ascii_any, is_sub_delim}
use Rattle.iri_grammar.specs.Classes.{is_gen_delim, is_ucschar, is_ucschar_plane, is_iprivate}
use Rattle.iri_percent.specs.Encoding.{keeps, encoded}
use Rattle.iri_percent.specs.declared.context.Context.TheVariants.{UserOrPassword, PathSegment, Query, Unreserved, Any}

-- A slash in a segment is data, and a colon parts the user from the password (RFC 3986 sections 3.3 and 3.2.1). All reserved characters stand where
-- any may (section 2.2).
of_uri : (encoded (keeps uri_tests PathSegment) (encode 0x3B1 ++ codes "/<alpha>?#") ≡ codes "%CE%B1%2F%3Calpha%3E%3F%23")
    × (encoded (keeps uri_tests UserOrPassword) (codes "a:b@c") ≡ codes "a%3Ab%40c")
    × (encoded (keeps uri_tests Any) (codes ":/?#[]@ !$&'()*+,;=") ≡ codes ":/?#[]@%20!$&'()*+,;=")
unfolding encoded chars encode pchar userinfo_char any_char is_ascii_pchar is_ascii_userinfo is_ascii_any is_ascii_reg_name
    is_ascii_unreserved is_sub_delim is_gen_delim
of_uri = (refl, refl, refl)

-- in the query of an IRI a character past ASCII stands (RFC 3987 section 2.2); a percent is never kept (RFC 3986 section 2.4)
of_iri : (encoded (keeps iri_tests Query) (encode 0x3B1 ++ codes "/<alpha>?#") ≡ encode 0x3B1 ++ codes "/%3Calpha%3E?%23")
    × (encoded (keeps iri_tests Unreserved) (codes "100%25") ≡ codes "100%2525")
unfolding encoded chars encode query_char unreserved is_ascii_query is_ascii_pchar is_ascii_reg_name is_ascii_unreserved is_sub_delim
    is_ucschar is_ucschar_plane is_iprivate
of_iri = (refl, refl)
