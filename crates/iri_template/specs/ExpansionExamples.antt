-- Worked examples of expansions.
use Rattle.std.specs.Prelude.{◌≡◌, ℕ, cond, List, [], ◌∷◌, ◌++◌, None, Some, codes, true, false, refl}
use Rattle.std.specs.Str.{chars, bytes_eq}
use lib.Utf8.{encode}
use Rattle.iri_grammar.specs.Classes.{uri_tests, unreserved, any_char, is_ascii_any, is_ascii_reg_name, is_ascii_unreserved, is_sub_delim}
use Rattle.iri_grammar.specs.Classes.{is_gen_delim}
use Rattle.iri_percent.specs.Units.{read_from, first_char}
use Rattle.iri_template.specs.Expansion.{expansion, shown_text}
use Rattle.iri_template.specs.Reading.{pieces_from, pieces_of}
use Rattle.iri_template.specs.ShownValues.{ShownValue, undefined, string, list, pairs}

-- the value that stands beside a name in a list
abbrev among : List (List ℕ × ShownValue) → List ℕ → ShownValue
among [] name = undefined
among (p ∷ ps) name = cond (bytes_eq p.0 name) p.1 (among ps name)

-- the variables of RFC 6570 section 3.2
abbrev values : List ℕ → ShownValue
values = among (
    (codes "var", string (codes "value")) ∷ (codes "hello", string (codes "Hello World!")) ∷ (codes "path", string (codes "/foo/bar"))
    ∷ (codes "empty", string []) ∷ (codes "x", string (codes "1024")) ∷ (codes "y", string (codes "768"))
    ∷ (codes "list", list (codes "red" ∷ codes "green" ∷ codes "blue" ∷ [])) ∷ (codes "none", list [])
    ∷ (codes "keys", pairs ((codes "semi", codes ";") ∷ (codes "dot", codes ".") ∷ (codes "comma", codes ",") ∷ [])) ∷ [])

-- a template's expansion with them
abbrev Gives : List ℕ → List ℕ → Type 0
Gives template text = expansion uri_tests values (pieces_of template) ≡ text

-- RFC 6570 section 1.2, levels 1 and 2
simple : Gives (codes "{var}") (codes "value") × Gives (codes "{hello}") (codes "Hello%20World%21")
    × Gives (codes "{+hello}") (codes "Hello%20World!") × Gives (codes "{+path}/here") (codes "/foo/bar/here")
    × Gives (codes "X{#hello}") (codes "X#Hello%20World!")
unfolding pieces_from read_from first_char chars encode unreserved any_char is_ascii_any is_ascii_reg_name is_ascii_unreserved
    is_sub_delim is_gen_delim
simple = (refl, refl, refl, refl, refl)

-- level 3
several : Gives (codes "map?{x,y}") (codes "map?1024,768") × Gives (codes "X{.x,y}") (codes "X.1024.768")
    × Gives (codes "{/var,x}/here") (codes "/value/1024/here") × Gives (codes "{;x,y,empty}") (codes ";x=1024;y=768;empty")
    × Gives (codes "{?x,y,empty}") (codes "?x=1024&y=768&empty=") × Gives (codes "?fixed=yes{&x}") (codes "?fixed=yes&x=1024")
unfolding pieces_from read_from first_char chars encode unreserved any_char is_ascii_any is_ascii_reg_name is_ascii_unreserved
    is_sub_delim is_gen_delim
several = (refl, refl, refl, refl, refl, refl)

-- level 4
modified : Gives (codes "{var:3}") (codes "val") × Gives (codes "{var:30}") (codes "value")
    × Gives (codes "{list}") (codes "red,green,blue")
    × Gives (codes "{list*}") (codes "red,green,blue") × Gives (codes "{keys}") (codes "semi,%3B,dot,.,comma,%2C")
    × Gives (codes "{+keys*}") (codes "semi=;,dot=.,comma=,") × Gives (codes "{/keys*}") (codes "/semi=%3B/dot=./comma=%2C")
    × Gives (codes "{;list*}") (codes ";list=red;list=green;list=blue") × Gives (codes "{;keys}") (codes ";keys=semi,%3B,dot,.,comma,%2C")
    × Gives (codes "{?keys*}") (codes "?semi=%3B&dot=.&comma=%2C")
unfolding pieces_from read_from first_char chars encode unreserved any_char is_ascii_any is_ascii_reg_name is_ascii_unreserved
    is_sub_delim is_gen_delim
modified = (refl, refl, refl, refl, refl, refl, refl, refl, refl, refl)

-- section 3.2.1: a variable without value is left out, and so is an empty list; an empty string isn't
left_out : Gives (codes "{?x,undef,y}") (codes "?x=1024&y=768") × Gives (codes "X{#none}X") (codes "XX")
    × Gives (codes "X{.empty}X") (codes "X.X")
unfolding pieces_from read_from first_char chars encode unreserved any_char is_ascii_any is_ascii_reg_name is_ascii_unreserved
    is_sub_delim is_gen_delim
left_out = (refl, refl, refl)

-- section 2.4.1: where triplets stay, a length counts a character in triplets as one, and a triplet where none begins
triplets_stay : (shown_text uri_tests true (Some 2) (codes "%CE%41%CE") ≡ codes "%CE%41")
    × (shown_text uri_tests true (Some 1) (codes "%CE%B1%41") ≡ codes "%CE%B1")
    × (shown_text uri_tests true None (codes "50%") ≡ codes "50%25")
unfolding read_from first_char chars encode unreserved any_char is_ascii_any is_ascii_reg_name is_ascii_unreserved is_sub_delim
    is_gen_delim
triplets_stay = (refl, refl, refl)

-- elsewhere it counts characters
characters : (shown_text uri_tests false (Some 2) (codes "%61") ≡ codes "%256")
    × (shown_text uri_tests false (Some 1) (encode 0x3B1 ++ encode 0x3B1) ≡ codes "%CE%B1")
unfolding chars encode unreserved is_ascii_unreserved
characters = (refl, refl)
