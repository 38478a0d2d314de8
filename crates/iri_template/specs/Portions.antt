-- The portions of a template, which are written one after the other (RFC 6570 section 3.1): the literals and triplets up to the next expression, and each varspec. And what they write, where values may change from call to call.
use Rattle.std.specs.Prelude.{ℕ, ◌+◌, ◌*◌, Bool, false, cond, ◌||◌, List, [], ◌∷◌, ◌++◌, length, Option, None}
use Rattle.iri_grammar.specs.Characters.{percent_sign}
use Rattle.iri_grammar.specs.Classes.{Tests, any_char}
use Rattle.iri_percent.specs.Encoding.{encoded_char}
use Rattle.iri_template.specs.Template.{has_some, Piece, literal, triplet, expression, piece_text}
use Rattle.iri_template.specs.Places.{placed_within}
use Rattle.iri_template.specs.Expansion.{row_of, value_texts, led}
use Rattle.iri_template.specs.Fault.{fault}
use Rattle.iri_template.specs.VarSpecs.{Placed}
use Rattle.iri_template.specs.ShownValues.{ShownValue}
use Rattle.iri_template.specs.Tells.{Telling, later}
use Rattle.iri_template.specs.TypeFaults.{is_mistyped}
use Rattle.iri_template.specs.declared.error.Error.{Error}
use Rattle.iri_template.specs.declared.error.ErrorKind.TheVariants.{UnexpectedValueType}
use Rattle.iri_template.specs.declared.operator.Operator.{Operator}
use Rattle.iri_template.specs.declared.varspec.Modifier.{Modifier}
use Rattle.iri_template.specs.declared.visitor.VisitPurpose.TheVariants.{Typecheck, Expand}

-- its place in the template, in bytes; what it writes; whether it is a varspec with a prefix that has no use for its value (section 2.4.1);
-- and how many calls of the context it takes
pub record Portion : Type 0 where
  pub location : ℕ
  pub text : List ℕ
  pub mistyped : Bool
  pub calls : ℕ

-- ---- varspecs
-- One that is looked at first, and whose value is told to be written where its type was right then. `written` says whether its expression has
-- a text before it.
abbrev pub varspec_portion : Tests → Operator → ℕ → Bool → List ℕ → Modifier → Bool → ShownValue → Portion
varspec_portion s operator at written name modifier mistyped told = record {
  location = at;
  text = led (row_of operator) written (value_texts s (row_of operator) name modifier told);
  mistyped = mistyped || is_mistyped modifier told;
  calls = cond mistyped 1 2;
}

-- The varspecs of an expression. Each takes two calls.
abbrev pub varspec_portions : Tests → Operator → Telling → Bool → List Placed → List Portion
varspec_portions s operator tells written [] = []
varspec_portions s operator tells written (p ∷ ps) =
    varspec_portion s operator p.location written p.name p.modifier (is_mistyped p.modifier (tells 0 p.name Typecheck))
    (tells 1 p.name Expand)
    ∷ varspec_portions s operator (later 2 tells)
    (written || has_some (value_texts s (row_of operator) p.name p.modifier (tells 1 p.name Expand))) ps

-- ---- templates
-- literals and triplets outside expressions; none where there are none
abbrev pub outside : ℕ → List ℕ → List Portion
outside at [] = []
outside at (x ∷ xs) = record { location = at; text = x ∷ xs; mistyped = false; calls = 0 } ∷ []

-- Of pieces that begin at `here`. Before them stand literals and triplets that begin at `at` and write `prefix`.
abbrev pub portions_from : Tests → Telling → ℕ → ℕ → List ℕ → List Piece → List Portion
portions_from s tells at here prefix [] = outside at prefix
portions_from s tells at here prefix (literal c ∷ ps) =
    portions_from s tells at (here + length (piece_text (literal c))) (prefix ++ encoded_char (any_char s) c) ps
portions_from s tells at here prefix (triplet a b ∷ ps) =
    portions_from s tells at (here + length (piece_text (triplet a b))) (prefix ++ percent_sign ∷ a ∷ b ∷ []) ps
portions_from s tells at here prefix (expression operator vs ∷ ps) =
    outside at prefix ++ (varspec_portions s operator tells false (placed_within here (expression operator vs))
    ++ portions_from s (later (2 * length vs) tells) (here + length (piece_text (expression operator vs)))
    (here + length (piece_text (expression operator vs))) [] ps)

-- The portions of a template's pieces. Where a context tells this from its next call on, the first varspec is looked at by call 0 and written by call 1, the second by calls 2 and 3, and so on.
abbrev pub portions : Tests → Telling → List Piece → List Portion
portions s tells ps = portions_from s tells 0 0 [] ps

-- ---- the first that is mistyped
-- its fault, at its place
abbrev pub portions_fault : List Portion → Option Error
portions_fault [] = None
portions_fault (p ∷ ps) = cond p.mistyped (fault UnexpectedValueType p.location) (portions_fault ps)

-- the texts before it, or of all where none is
abbrev pub portions_text : List Portion → List ℕ
portions_text [] = []
portions_text (p ∷ ps) = cond p.mistyped [] (p.text ++ portions_text ps)

-- ---- the calls of the context that they take
abbrev pub calls_in : List Portion → ℕ
calls_in [] = 0
calls_in (p ∷ ps) = p.calls + calls_in ps
