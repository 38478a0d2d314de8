-- The JSON of a text and its components, on one line (RFC 8259 section 4, RFC 3986 section 3). No byte of it is escaped, and none needs it.
use Rattle.std.specs.Prelude.{ℕ, codes, nat_lt, not, ◌||◌, ◌==◌, Bool, List, [], ◌++◌, Option, None, Some}
use Rattle.iri_grammar.specs.Authority.{authority_parts}
use Rattle.iri_grammar.specs.Parts.{Parts}

-- a member after others; a component that is absent is no member
abbrev pub member_text : (key : List ℕ) → Option (List ℕ) → List ℕ
member_text key None = []
member_text key (Some value) = key ++ (value ++ codes "\"")

-- userinfo, host and port of an authority, by its one reading (RFC 3986 section 3.2)
abbrev pub authority_text : Option (List ℕ) → List ℕ
authority_text None = []
authority_text (Some a) =
    member_text (codes ",\"userinfo\":\"") (authority_parts a).userinfo
    ++ (member_text (codes ",\"host\":\"") (Some (authority_parts a).host) ++ member_text (codes ",\"port\":\"") (authority_parts a).port)

-- the members after the scheme's
abbrev pub after_scheme_text : Parts → List ℕ
after_scheme_text p =
    authority_text p.authority ++ (member_text (codes ",\"path\":\"") (Some p.path)
    ++ (member_text (codes ",\"query\":\"") p.query ++ (member_text (codes ",\"fragment\":\"") p.fragment ++ codes "}\n")))

-- the object of a text with these parts
abbrev pub parts_text : List ℕ → Parts → List ℕ
parts_text text p = codes "{\"text\":\"" ++ (text ++ (codes "\"" ++ (member_text (codes ",\"scheme\":\"") p.scheme ++ after_scheme_text p)))

-- that of a refused reference: the words for its first fault
abbrev pub bad_text : List ℕ → List ℕ
bad_text words = codes "{\"bad\":\"" ++ (words ++ codes "\"}\n")

-- a byte that stands for itself in a string of JSON (RFC 8259 section 7): none of `"`, `\` and those below 32
abbrev pub is_unescaped : ℕ → Bool
is_unescaped x = not (x == 34 || (x == 92 || nat_lt x 32))
