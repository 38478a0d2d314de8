-- The first fault of a template, read from the left, and how many bytes stand before it.
use Rattle.std.specs.Prelude.{◌≡◌, ℕ, zero, suc, ◌+◌, ◌-◌, Bool, cond, ◌&&◌, ◌||◌, ◌==◌, nat_lt, List, [], ◌∷◌, length, Option, Some, None}
use Rattle.std.specs.Prelude.{Result, MatchResult}
use Rattle.std.specs.Char.{is_ascii_digit, is_ascii_hexdigit}
use Rattle.std.specs.Str.{is_utf8, chars}
use Rattle.std.specs.Str.Lossy.{utf8_valid_len}
use Rattle.iri_grammar.specs.Cut.{tail, lacks, from_any}
use Rattle.iri_grammar.specs.Pieces.{pieces}
use Rattle.iri_grammar.specs.Runs.{run_of}
use Rattle.iri_template.specs.Names.{is_varname}
use Rattle.iri_template.specs.Template.{literal_char, operator_text}
use Rattle.iri_template.specs.Reading.{ends_name, name_of, operator_of, after_operator, body_of, first_of, piece_len}
use Rattle.iri_template.specs.declared.error.Error.{Error}
use Rattle.iri_template.specs.declared.error.ErrorKind.{ErrorKind}
use Rattle.iri_template.specs.declared.error.ErrorKind.TheVariants.{ExpressionNotClosed, InvalidCharacter, InvalidExpression}
use Rattle.iri_template.specs.declared.error.ErrorKind.TheVariants.{InvalidPercentEncoding, InvalidUtf8, UnsupportedOperator}
use Rattle.iri_grammar.specs.Characters.{at_sign, colon, comma, equals_sign, exclamation_mark, left_brace, percent_sign, right_brace}
use Rattle.iri_grammar.specs.Characters.{vertical_bar}

-- ---- faults
abbrev pub fault : ErrorKind → ℕ → Option Error
fault k n = Some (record { kind = k; location = n })

-- the same fault, where so many bytes stand before what was read
abbrev pub moved : ℕ → Option Error → Option Error
moved n None = None
moved n (Some e) = fault e.kind (n + e.location)

abbrev pub first : Option Error → Option Error → Option Error
first None g = g
first (Some e) g = Some e

-- none where the test passes
abbrev pub unless : Bool → Option Error → Option Error
unless b f = cond b None f

-- of a name alone
abbrev pub name_fault : List ℕ → Option Error
name_fault t = unless (is_varname t) (fault InvalidExpression 0)

-- ---- varspecs (section 2.3). The place of a bad length is one byte after that where it begins.
-- there are 0 bytes or more than 4; the first byte that is no digit; a leading zero
abbrev pub max_length_fault : List ℕ → Option Error
max_length_fault ds =
    cond (nat_lt 0 (length ds) && nat_lt (length ds) 5)
    (cond (run_of is_ascii_digit ds == length ds) (cond (first_of ds == 48) (fault InvalidExpression 2) None)
    (fault InvalidExpression (run_of is_ascii_digit ds + 2)))
    (fault InvalidExpression 2)

-- what follows the name: nothing, `:` and a length, or `*` and nothing
abbrev pub modifier_fault : List ℕ → Option Error
modifier_fault [] = None
modifier_fault (c ∷ cs) = cond (c == colon) (max_length_fault cs) (unless (length cs == 0) (fault InvalidExpression 1))

-- what stands before the first `:` or `*`, or all, is no name; or what follows is no modifier
unfoldable pub varspec_fault : List ℕ → Option Error
varspec_fault t = cond (is_varname (name_of t)) (moved (length (name_of t)) (modifier_fault (from_any ends_name t)))
    (fault InvalidExpression 0)

-- the first fault of varspecs parted by commas, where so many bytes stand before them
abbrev pub varspecs_fault : ℕ → List (List ℕ) → Option Error
varspecs_fault at [] = None
varspecs_fault at (v ∷ vs) = first (moved at (varspec_fault v)) (varspecs_fault (at + length v + 1) vs)

-- ---- expressions (section 2.2)
-- `op-reserve`: `=`, a comma, `!`, `@`, a vertical bar
unfoldable pub is_reserved_operator : ℕ → Bool
is_reserved_operator c = c == equals_sign || c == comma || c == exclamation_mark || c == at_sign || c == vertical_bar

-- the body is empty, or it begins with an operator that is kept for later
abbrev pub operator_fault : List ℕ → Option Error
operator_fault [] = fault InvalidExpression 0
operator_fault (c ∷ cs) = cond (is_reserved_operator c) (fault UnsupportedOperator 0) None

-- that, or the fault of a varspec
abbrev pub body_fault : List ℕ → Option Error
body_fault t = first (operator_fault t) (varspecs_fault (length (operator_text (operator_of t))) (pieces comma (after_operator t)))

-- no `}` follows; or the body has a fault
abbrev pub expression_fault : List ℕ → Option Error
expression_fault t = cond (lacks right_brace (tail t)) (fault ExpressionNotClosed 0) (moved 1 (body_fault (body_of t)))

-- ---- the piece at the start
-- fewer than two bytes follow; the first is no hex digit; the second is none
abbrev pub triplet_fault : List ℕ → Option Error
triplet_fault (c ∷ a ∷ b ∷ cs) = cond (is_ascii_hexdigit a) (unless (is_ascii_hexdigit b) (fault InvalidPercentEncoding 2))
    (fault InvalidPercentEncoding 1)
triplet_fault t = fault InvalidPercentEncoding 0

abbrev pub literal_fault : List ℕ → Option Error
literal_fault t = unless (literal_char (first_of (chars t))) (fault InvalidCharacter 0)

abbrev pub fault_at : ℕ → List ℕ → Option Error
fault_at c t = cond (c == left_brace) (expression_fault t) (cond (c == percent_sign) (triplet_fault t) (literal_fault t))

abbrev pub piece_fault : List ℕ → Option Error
piece_fault t = fault_at (first_of t) t

-- ---- templates
-- of what is left, where so many bytes of the next piece were passed over, and so many stand before it
unfoldable pub fault_from : ℕ → ℕ → List ℕ → Option Error
fault_from skip at [] = None
fault_from zero at (c ∷ cs) = first (moved at (piece_fault (c ∷ cs))) (fault_from (piece_len (c ∷ cs) - 1) (at + 1) cs)
fault_from (suc skip) at (c ∷ cs) = fault_from skip (at + 1) cs

-- of a text
abbrev pub text_fault : List ℕ → Option Error
text_fault t = fault_from 0 0 t

-- of bytes: they are no UTF-8 after the longest prefix that is; or the text has a fault
abbrev pub template_fault : List ℕ → Option Error
template_fault bs = cond (is_utf8 bs) (text_fault bs) (fault InvalidUtf8 (utf8_valid_len bs))

-- the answer of a validator: Ok where there is no fault, otherwise the first
abbrev pub Answers : {A : Type 0} → Result A Error → Option Error → Type 0
Answers r f = MatchResult r (λ _. f ≡ None) (λ e. f ≡ Some e)
