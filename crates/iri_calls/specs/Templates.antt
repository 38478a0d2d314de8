-- What an expansion comes to.
use Rattle.std.specs.Prelude.{◌≡◌, ℕ, not, List, [], ◌∷◌, Option, position, nat_eq, MatchOption}
use Rattle.std.specs.List.{find}
use Rattle.iri_grammar.specs.Classes.{Tests}
use Rattle.iri_template.specs.ErrorTexts.{description}
use Rattle.iri_template.specs.Expansion.{expansion}
use Rattle.iri_template.specs.Fault.{template_fault, first}
use Rattle.iri_template.specs.Reading.{pieces_of}
use Rattle.iri_template.specs.TypeFaults.{type_fault}
use Rattle.iri_template.specs.declared.error.Error.{Error}
use Rattle.iri_template.specs.declared.error.ErrorKind.{ErrorKind}
use Rattle.iri_template.specs.declared.error.ErrorKind.TheVariants.{ExpressionNotClosed, InvalidCharacter, InvalidExpression}
use Rattle.iri_template.specs.declared.error.ErrorKind.TheVariants.{InvalidPercentEncoding, InvalidUtf8, UnexpectedValueType}
use Rattle.iri_template.specs.declared.error.ErrorKind.TheVariants.{UnsupportedOperator, WriteFailed, Memory}
use Rattle.iri_calls.specs.Numbers.{grammar_of}
use Rattle.iri_calls.specs.declared.status.TheConstants.{BAD_TEXT, BAD_VARIABLE, UNKNOWN}
use Rattle.iri_calls.specs.Outcome.{Outcome, Answered}
use Rattle.iri_calls.specs.Outcome.Outcome.{text, plain}
use Rattle.iri_calls.specs.Outcomes.{where_known}
use Rattle.iri_calls.specs.Variables.{value_in, is_sound}
use Rattle.iri_calls.specs.declared.template.TheConstants.{EXPRESSION_NOT_CLOSED, INVALID_CHARACTER, INVALID_EXPRESSION, INVALID_PERCENT_ENCODING}
use Rattle.iri_calls.specs.declared.template.TheConstants.{INVALID_UTF8, UNEXPECTED_VALUE_TYPE, UNSUPPORTED_OPERATOR, WRITE_FAILED, MEMORY}
use Rattle.iri_calls.specs.declared.variables.Variable.{Variable}

-- the kinds of faults that are returned; the last two of `template_fault_number` don't come where no text is written to a sink that
-- stops and no memory is taken
abbrev pub template_kinds : List ErrorKind
template_kinds =
    ExpressionNotClosed ∷ InvalidCharacter ∷ InvalidExpression ∷ InvalidPercentEncoding ∷ InvalidUtf8 ∷ UnexpectedValueType
    ∷ UnsupportedOperator ∷ []

abbrev pub template_fault_number : ErrorKind → ℕ
template_fault_number ExpressionNotClosed = EXPRESSION_NOT_CLOSED
template_fault_number InvalidCharacter = INVALID_CHARACTER
template_fault_number InvalidExpression = INVALID_EXPRESSION
template_fault_number InvalidPercentEncoding = INVALID_PERCENT_ENCODING
template_fault_number InvalidUtf8 = INVALID_UTF8
template_fault_number UnexpectedValueType = UNEXPECTED_VALUE_TYPE
template_fault_number UnsupportedOperator = UNSUPPORTED_OPERATOR
template_fault_number WriteFailed = WRITE_FAILED
template_fault_number Memory = MEMORY

-- the kind of fault that has this number
abbrev pub template_fault_numbered : ℕ → Option ErrorKind
template_fault_numbered n = find (λ kind. nat_eq n (template_fault_number kind)) template_kinds

-- the words for the kind of this number
abbrev pub template_fault_words : ℕ → Outcome
template_fault_words number = where_known (template_fault_numbered number) (λ kind. text (description kind))

-- the kind of a fault and its place in bytes
abbrev pub Refused : Error → ℕ → ℕ → ℕ → Type 0
Refused e detail place status = (detail ≡ template_fault_number e.kind) × (place ≡ e.location) × (status ≡ BAD_TEXT)

-- the first fault of the template; otherwise that of its values; otherwise the expansion
abbrev pub ExpandedIn : Tests → List ℕ → List Variable → List ℕ → List ℕ → ℕ → ℕ → ℕ → Type 0
ExpandedIn s t vs old new detail place status =
    MatchOption (first (template_fault t) (type_fault (value_in vs) (pieces_of t)))
    ((place ≡ 0) × Answered (text (expansion s (value_in vs) (pieces_of t))) old new detail status)
    (λ e. (new ≡ old) × Refused e detail place status)

-- a variable that isn't sound comes before all else: its place is its index
abbrev pub Expanded : ℕ → List ℕ → List Variable → List ℕ → List ℕ → ℕ → ℕ → ℕ → Type 0
Expanded grammar t vs old new detail place status =
    MatchOption (position (λ v. not (is_sound v)) vs)
    (MatchOption (grammar_of grammar) ((place ≡ 0) × Answered (plain UNKNOWN) old new detail status)
    (λ s. ExpandedIn s t vs old new detail place status))
    (λ i. (place ≡ i) × Answered (plain BAD_VARIABLE) old new detail status)
