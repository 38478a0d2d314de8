-- Worked examples of what is written where values change.
use Rattle.std.specs.Prelude.{◌≡◌, ℕ, zero, suc, false, List, [], ◌∷◌, None, codes, refl}
use Rattle.std.specs.Str.{chars}
use lib.Utf8.{encode}
use Rattle.iri_grammar.specs.Classes.{uri_tests, unreserved, is_ascii_unreserved, any_char, is_ascii_any, is_ascii_reg_name, is_sub_delim, is_gen_delim}
use Rattle.iri_template.specs.Fault.{fault}
use Rattle.iri_template.specs.Portions.{Portion, portions, portions_fault, portions_text, calls_in}
use Rattle.iri_template.specs.Reading.{pieces_from, pieces_of}
use Rattle.iri_template.specs.ShownValues.{undefined, string, list}
use Rattle.iri_template.specs.Tells.{Telling, always}
use Rattle.iri_template.specs.declared.error.ErrorKind.TheVariants.{UnexpectedValueType}

abbrev outside : List ℕ → ℕ → Portion
outside t at = record { location = at; text = t; mistyped = false; calls = 0 }

-- a varspec, whose value is looked at and then written
abbrev written : List ℕ → ℕ → Portion
written t at = record { location = at; text = t; mistyped = false; calls = 2 }

-- What stands between expressions is one portion, its triplets too; the operator's first text and separators belong to varspecs. A varspec
-- without a value is a portion that writes nothing.
places : (portions uri_tests (always (λ _. string (codes "1"))) (pieces_of (codes "a%41b{?x,y}c")) ≡ outside (codes "a%41b") 0
    ∷ written (codes "?x=1") 7 ∷ written (codes "&y=1") 9 ∷ outside (codes "c") 11 ∷ [])
    × (portions uri_tests (always (λ _. undefined)) (pieces_of (codes "hello/{world}")) ≡ outside (codes "hello/") 0 ∷ written [] 7 ∷ [])
unfolding pieces_from chars encode unreserved is_ascii_unreserved any_char is_ascii_any is_ascii_reg_name is_sub_delim is_gen_delim
places = (refl, refl)

-- a string, and from then on a list
turning : Telling
turning zero name purpose = string (codes "b")
turning (suc k) name purpose = list (codes "a" ∷ [])

-- lists up to the third call, and strings from then on
returning : Telling
returning zero name purpose = list (codes "a" ∷ [])
returning (suc zero) name purpose = list (codes "a" ∷ [])
returning (suc (suc k)) name purpose = string (codes "bcd")

-- Without a length a list is written. Calls 0 and 1 are of the first varspec, 2 and 3 of the second.
texts : (portions_text (portions uri_tests turning (pieces_of (codes "x{v:3}y"))) ≡ codes "x")
    × (portions_text (portions uri_tests turning (pieces_of (codes "x{v}y"))) ≡ codes "xay")
    × (portions_text (portions uri_tests returning (pieces_of (codes "{/v,w:2}"))) ≡ codes "/a/bc")
unfolding turning returning pieces_from chars encode unreserved is_ascii_unreserved any_char is_ascii_any is_ascii_reg_name
    is_sub_delim is_gen_delim
texts = (refl, refl, refl)

faults : (portions_fault (portions uri_tests turning (pieces_of (codes "x{v:3}"))) ≡ fault UnexpectedValueType 2)
    × (portions_fault (portions uri_tests returning (pieces_of (codes "{/w:2,v}"))) ≡ fault UnexpectedValueType 2)
    × (portions_fault (portions uri_tests returning (pieces_of (codes "{/v,w:2}"))) ≡ None)
unfolding turning returning pieces_from chars encode unreserved is_ascii_unreserved any_char is_ascii_any is_ascii_reg_name
    is_sub_delim is_gen_delim
faults = (refl, refl, refl)

-- a value that is mistyped where it is looked at isn't asked for again
calls : (calls_in (portions uri_tests returning (pieces_of (codes "x{w:2}"))) ≡ 1)
    × (calls_in (portions uri_tests turning (pieces_of (codes "x{w:2}"))) ≡ 2)
unfolding turning returning pieces_from chars encode unreserved is_ascii_unreserved any_char is_ascii_any is_ascii_reg_name
    is_sub_delim is_gen_delim
calls = (refl, refl)
