-- Worked examples: field values and their link-values, faults, and the written form (RFC 8288 section 3).
use Rattle.std.specs.Prelude.{◌≡◌, ℕ, List, [], ◌∷◌, Option, Some, None, codes, map, refl}
use Rattle.std.specs.Str.{is_utf8, chars}
use lib.Utf8.{encode}
use Rattle.iri_grammar.specs.Classes.{uri_tests, path_char, is_ascii_path, is_ascii_pchar, is_ascii_reg_name, is_ascii_unreserved}
use Rattle.iri_grammar.specs.Classes.{is_sub_delim, query_char, is_ascii_query}
use Rattle.iri_grammar.specs.Components.{is_letter, is_scheme_char}
use Rattle.iri_grammar.specs.Over.{over_from}
use Rattle.iri_grammar.specs.Split.{split_of}
use Rattle.iri_grammar.specs.WholeFault.{fault_before_fragment, parts_fault}
use Rattle.iri_grammar.specs.declared.error.ErrorKind.TheVariants.{InvalidPath}
use Rattle.iri_link.specs.Token.{plain, pair, done}
use Rattle.iri_link.specs.Field.{LinkValue, IsField, last, more, empty as no_element, link as element, link}
use Rattle.iri_link.specs.Field.{param, empty, none, bare, valued, token, quoted}
use Rattle.iri_link.specs.Fault.{Told, field_fault, fault_from, closes_from}
use Rattle.iri_link.specs.LaxReadings.{lax_links_in, lax_reading}
use Rattle.iri_link.specs.Written.{written}
use Rattle.iri_link.specs.declared.error.LinkKind.TheVariants.{NoTarget, OpenTarget, BadTarget, NoParam, NoValue, OpenString}

-- a name in capitals, an escaped delimiter, and a semicolon without a parameter after it
abbrev x_up : LinkValue
x_up = record {
  target = codes "/x";
  params = record { name = codes "rel"; value = Some (codes "up") } ∷ record { name = codes "title"; value = Some (codes "a\"b") } ∷ [];
}

x_up_is_read : IsField (codes "</x>;REL=up;title=\"a\\\"b\";") (x_up ∷ [])
x_up_is_read =
    last _ _ (element [] _ [] x_up refl
    (link (codes "/x") _ _ refl
    (param [] [] (codes "REL=up") _ _ _ refl refl (valued (codes "REL") [] [] (codes "up") _ refl refl refl (token _ refl))
    (param [] [] (codes "title=\"a\\\"b\"") _ _ _ refl refl
    (valued (codes "title") [] [] (codes "\"a\\\"b\"") _ refl refl refl
    (quoted (codes "a\\\"b") _ (plain 97 _ _ refl (pair 34 _ _ refl (plain 98 _ _ refl done)))))
    (empty [] [] _ _ refl refl none))))
    refl)

-- commas within a target and within a quoted string are part of it; an element may be empty
abbrev a_and_b : List LinkValue
a_and_b =
    record { target = codes "a,b"; params = record { name = codes "t"; value = Some (codes "x,y;z") } ∷ [] }
    ∷ record { target = codes "c"; params = record { name = codes "crossorigin"; value = None } ∷ [] } ∷ []

a_and_b_are_read : IsField (codes "<a,b>; t = \"x,y;z\" , ,<c>; crossorigin") a_and_b
a_and_b_are_read =
    more (codes "<a,b>; t = \"x,y;z\" ") _ (_ ∷ []) _
    (element [] (codes "<a,b>; t = \"x,y;z\"") (codes " ") _ refl
    (link (codes "a,b") _ _ refl (param [] (codes " ") (codes "t = \"x,y;z\"") [] _ _ refl refl
    (valued (codes "t") (codes " ") (codes " ") (codes "\"x,y;z\"") _ refl refl refl
    (quoted (codes "x,y;z") _ (plain 120 _ _ refl (plain 44 _ _ refl (plain 121 _ _ refl (plain 59 _ _ refl (plain 122 _ _ refl done)))))))
    none)) refl)
    (more (codes " ") _ [] _ (no_element (codes " ") refl)
    (last _ _ (element [] (codes "<c>; crossorigin") [] _ refl
    (link (codes "c") _ _ refl (param [] (codes " ") (codes "crossorigin") [] _ _ refl refl (bare (codes "crossorigin") refl) none)) refl)))

abbrev fault_of : List ℕ → Option Told
fault_of x = field_fault uri_tests x

-- the first fault and its place
faults : map fault_of (codes "a" ∷ codes "<a" ∷ codes "<a> b" ∷ codes "<a>;r=" ∷ codes "<a>;r=\"x" ∷ codes " , <a>;=b"
    ∷ codes "<a>; r = b c" ∷ codes "<a>;r=(" ∷ [])
    ≡ Some (record { kind = NoTarget; place = 0 }) ∷ Some (record { kind = OpenTarget; place = 0 })
    ∷ Some (record { kind = NoParam; place = 4 }) ∷ Some (record { kind = NoValue; place = 6 })
    ∷ Some (record { kind = OpenString; place = 6 }) ∷ Some (record { kind = NoParam; place = 7 })
    ∷ Some (record { kind = NoParam; place = 11 }) ∷ Some (record { kind = NoValue; place = 6 }) ∷ []
unfolding fault_from closes_from split_of fault_before_fragment parts_fault is_letter is_scheme_char is_utf8 chars encode over_from path_char
    is_ascii_path is_ascii_pchar is_ascii_reg_name is_ascii_unreserved is_sub_delim query_char is_ascii_query
faults = refl

bad_target : fault_of (codes "<%4>") ≡ Some (record { kind = BadTarget (record { kind = InvalidPath }); place = 1 })
unfolding fault_from closes_from split_of fault_before_fragment parts_fault is_letter is_scheme_char is_utf8 chars encode over_from path_char
    is_ascii_path is_ascii_pchar is_ascii_reg_name is_ascii_unreserved is_sub_delim query_char is_ascii_query
bad_target = refl

no_fault : map fault_of (codes "" ∷ codes " , ," ∷ codes "<a,b>; rel=\"x,y\", <?page=1> ; rel = prev;;"
    ∷ codes "</%7Eu/../x>;REL=up;title=\"a\\\"b\";" ∷ [])
    ≡ None ∷ None ∷ None ∷ None ∷ []
unfolding fault_from closes_from split_of fault_before_fragment parts_fault is_letter is_scheme_char is_utf8 chars encode over_from path_char
    is_ascii_path is_ascii_pchar is_ascii_reg_name is_ascii_unreserved is_sub_delim query_char is_ascii_query
no_fault = refl

-- read laxly: a media type without quotes, blanks after it, what is no link-value, a target that is none, a parameter without a name,
-- and a quoted string that isn't closed
lax_links : lax_links_in uri_tests (codes "</f.woff2>; rel=preload; type=font/woff2 ;crossorigin, bar \"a, <b>\", <%4>; rel=x, </b>;=pri=1;REL=up c; t=\"x, y")
    ≡ record {
      target = codes "/f.woff2";
      params = record { name = codes "rel"; value = Some (codes "preload") } ∷ record { name = codes "type"; value = Some (codes "font/woff2") }
          ∷ record { name = codes "crossorigin"; value = None } ∷ [];
    }
    ∷ record {
      target = codes "/b";
      params = record { name = codes "rel"; value = Some (codes "up c") } ∷ record { name = codes "t"; value = Some (codes "x, y") } ∷ [];
    } ∷ []
unfolding lax_reading split_of fault_before_fragment parts_fault is_letter is_scheme_char is_utf8 chars encode over_from path_char is_ascii_path is_ascii_pchar
    is_ascii_reg_name is_ascii_unreserved is_sub_delim query_char is_ascii_query
lax_links = refl

-- one form: each value in quotes, delimiters escaped, one comma and one blank between
written_x_up :
    written (record { target = codes "https://h/p?page=3"; params = record { name = codes "crossorigin"; value = None } ∷ [] }
    ∷ x_up ∷ [])
    ≡ codes "<https://h/p?page=3>; crossorigin, </x>; rel=\"up\"; title=\"a\\\"b\""
written_x_up = refl
