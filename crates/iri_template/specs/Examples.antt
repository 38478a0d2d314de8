-- Worked examples: faults and their places, pieces, names.
use Rattle.std.specs.Prelude.{◌≡◌, [], ◌∷◌, None, codes, refl}
use Rattle.std.specs.Str.{chars}
use Rattle.iri_grammar.specs.Over.{over_from}
use Rattle.iri_grammar.specs.Classes.{any_char, is_ascii_any, is_ascii_reg_name, is_ascii_unreserved, is_sub_delim, is_gen_delim}
use Rattle.iri_grammar.specs.Classes.{is_ucschar, is_ucschar_plane, is_iprivate}
use Rattle.iri_template.specs.Names.{is_varname, is_name_char}
use Rattle.iri_template.specs.Template.{literal, triplet, expression, whole, explode, prefix, names_of}
use Rattle.iri_template.specs.Reading.{pieces_from, pieces_of}
use Rattle.iri_template.specs.Fault.{text_fault, fault, fault_from, varspec_fault, is_reserved_operator}
use Rattle.iri_template.specs.declared.error.ErrorKind.TheVariants.{ExpressionNotClosed, InvalidCharacter, InvalidExpression}
use Rattle.iri_template.specs.declared.error.ErrorKind.TheVariants.{InvalidPercentEncoding, UnsupportedOperator}
use Rattle.iri_template.specs.declared.operator.Operator.TheVariants.{FormQuery}

-- the length of a prefix is one to four digits (section 2.4.1); its fault is told one byte after the place where it begins
lengths : (text_fault (codes "{var:99999}") ≡ fault InvalidExpression 6) × (text_fault (codes "{var:0}") ≡ fault InvalidExpression 6)
    × (text_fault (codes "{var:1x}") ≡ fault InvalidExpression 7)
unfolding fault_from varspec_fault is_reserved_operator is_varname is_name_char over_from chars any_char is_ascii_any is_ascii_reg_name
    is_ascii_unreserved is_sub_delim is_gen_delim
lengths = (refl, refl, refl)

-- an expression is closed, not empty, and has no operator that is kept for later; a varspec ends with its modifier, and no name begins with a dot
expressions : (text_fault (codes "{a") ≡ fault ExpressionNotClosed 0) × (text_fault (codes "a{}") ≡ fault InvalidExpression 2)
    × (text_fault (codes "{=a}") ≡ fault UnsupportedOperator 1) × (text_fault (codes "{a*b}") ≡ fault InvalidExpression 3)
    × (text_fault (codes "x{?a,b..,.c}") ≡ fault InvalidExpression 9) × (text_fault (codes "x%2F{?a,b*,c:12}") ≡ None)
unfolding fault_from varspec_fault is_reserved_operator is_varname is_name_char over_from chars any_char is_ascii_any is_ascii_reg_name
    is_ascii_unreserved is_sub_delim is_gen_delim
expressions = (refl, refl, refl, refl, refl, refl)

-- outside them: a letter past ASCII after `%`, and alone; U+FFFE is in no class
literals : (text_fault (37 ∷ 97 ∷ 206 ∷ 177 ∷ []) ≡ fault InvalidPercentEncoding 2) × (text_fault (206 ∷ 177 ∷ []) ≡ None)
    × (text_fault (97 ∷ 239 ∷ 191 ∷ 190 ∷ []) ≡ fault InvalidCharacter 1)
unfolding fault_from varspec_fault is_reserved_operator is_varname is_name_char over_from chars any_char is_ascii_any is_ascii_reg_name
    is_ascii_unreserved is_sub_delim is_gen_delim is_ucschar is_ucschar_plane is_iprivate
literals = (refl, refl, refl)

read : (pieces_of (codes "x%2F{?a,b*,c:12}") ≡ literal 120 ∷ triplet 50 70
    ∷ expression FormQuery ((record { name = codes "a"; modifier = whole }) ∷ (record { name = codes "b"; modifier = explode })
    ∷ (record { name = codes "c"; modifier = prefix (codes "12") }) ∷ []) ∷ [])
    × (names_of (pieces_of (codes "{a,b}x{a}")) ≡ codes "a" ∷ codes "b" ∷ codes "a" ∷ [])
unfolding pieces_from chars
read = (refl, refl)
