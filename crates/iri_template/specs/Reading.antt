-- How a template is read, from the left: the piece at its start, and how long that is. What no piece begins is read as it comes, and is a fault.
use Rattle.std.specs.Prelude.{ℕ, zero, suc, ◌+◌, ◌-◌, Bool, cond, ◌||◌, ◌==◌, List, [], ◌∷◌, map, length, drop}
use Rattle.std.specs.Char.{len_utf8}
use Rattle.std.specs.Str.{chars}
use Rattle.iri_grammar.specs.Cut.{before, tail, before_any, from_any}
use Rattle.iri_grammar.specs.Pieces.{pieces}
use Rattle.iri_template.specs.Template.{Modifier, whole, explode, prefix, VarSpec, Piece, literal, triplet, expression, operator_text}
use Rattle.iri_template.specs.declared.operator.Operator.{Operator}
use Rattle.iri_template.specs.declared.operator.Operator.TheVariants.{Simple, Reserved, Fragment, Label, PathSegment, PathParameter}
use Rattle.iri_template.specs.declared.operator.Operator.TheVariants.{FormQuery, FormContinuation}
use Rattle.iri_grammar.specs.Characters.{ampersand, asterisk, colon, comma, dot, left_brace, number_sign, percent_sign, plus_sign}
use Rattle.iri_grammar.specs.Characters.{question_mark, right_brace, semicolon, slash}

-- ---- varspecs
-- a name reaches to the first `:` or `*`
abbrev pub ends_name : ℕ → Bool
ends_name c = c == colon || c == asterisk

abbrev pub name_of : List ℕ → List ℕ
name_of t = before_any ends_name t

abbrev pub modifier_of : List ℕ → Modifier
modifier_of [] = whole
modifier_of (c ∷ cs) = cond (c == colon) (prefix cs) explode

abbrev pub varspec_of : List ℕ → VarSpec
varspec_of t = record { name = name_of t; modifier = modifier_of (from_any ends_name t) }

-- ---- expressions: what stands between the braces
abbrev pub operator_at : ℕ → Operator
operator_at c =
    cond (c == plus_sign) Reserved (cond (c == number_sign) Fragment
    (cond (c == dot) Label (cond (c == slash) PathSegment
    (cond (c == semicolon) PathParameter (cond (c == question_mark) FormQuery (cond (c == ampersand) FormContinuation Simple))))))

abbrev pub operator_of : List ℕ → Operator
operator_of [] = Simple
operator_of (c ∷ cs) = operator_at c

-- what stands after the operator
abbrev pub after_operator : List ℕ → List ℕ
after_operator t = drop (length (operator_text (operator_of t))) t

abbrev pub expression_of : List ℕ → Piece
expression_of t = expression (operator_of t) (map varspec_of (pieces comma (after_operator t)))

-- ---- the piece at the start
-- the body of an expression reaches to the first `}`
abbrev pub body_of : List ℕ → List ℕ
body_of t = before right_brace (tail t)

abbrev pub first_of : List ℕ → ℕ
first_of [] = 0
first_of (c ∷ cs) = c

abbrev pub triplet_of : List ℕ → Piece
triplet_of t = triplet (first_of (tail t)) (first_of (tail (tail t)))

abbrev pub piece_at : ℕ → List ℕ → Piece
piece_at c t = cond (c == left_brace) (expression_of (body_of t)) (cond (c == percent_sign) (triplet_of t) (literal (first_of (chars t))))

abbrev pub piece_of : List ℕ → Piece
piece_of t = piece_at (first_of t) t

-- how many bytes it has
abbrev pub len_at : ℕ → List ℕ → ℕ
len_at c t = cond (c == left_brace) (length (body_of t) + 2) (cond (c == percent_sign) 3 (len_utf8 (first_of (chars t))))

abbrev pub piece_len : List ℕ → ℕ
piece_len t = len_at (first_of t) t

-- ---- all pieces, one after the other; so many bytes of the next one were passed over already
unfoldable pub pieces_from : ℕ → List ℕ → List Piece
pieces_from skip [] = []
pieces_from zero (c ∷ cs) = piece_of (c ∷ cs) ∷ pieces_from (piece_len (c ∷ cs) - 1) cs
pieces_from (suc skip) (c ∷ cs) = pieces_from skip cs

abbrev pub pieces_of : List ℕ → List Piece
pieces_of t = pieces_from 0 t
