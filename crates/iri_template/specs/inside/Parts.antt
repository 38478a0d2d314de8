-- What a walk over a template takes at a time: a run of literals, a triplet, or an expression.
use Rattle.std.specs.Prelude.{◌≡◌, ◌<◌, ℕ, true, false, ◌+◌, ◌-◌, List, [], ◌∷◌, ◌++◌, map, length, Option, Some, None}
use denote.Ref.{Bor}
use Rattle.std.specs.List.{list_all}
use Rattle.std.specs.Str.{chars, encode_utf8_all}
use Rattle.iri_template.specs.Template.{Piece, literal, literal_char, expression, operator_text, template_text}
use Rattle.iri_template.specs.Reading.{triplet_of, pieces_of, first_of}
use Rattle.iri_template.specs.Fault.{fault_from}
use Rattle.iri_template.specs.Left.{varspecs_of, left_len}
use Rattle.iri_template.specs.declared.part.Part.{Part}
use Rattle.iri_template.specs.declared.part.Part.TheVariants as part
use Rattle.iri_template.specs.declared.varspecs.VarSpecs.{VarSpecs}

abbrev pub part_pieces : Part → List Piece
part_pieces (part.Literals l) = map literal (chars l.now)
part_pieces (part.Triplet l) = triplet_of l.now ∷ []
part_pieces (part.Expression o v) = expression o (varspecs_of v.text) ∷ []

-- a triplet is its text; varspecs stand after the brace and the operator of an expression
abbrev pub IsPlaced : Part → ℕ → Type 0
IsPlaced (part.Literals l) at = Unit {0}
IsPlaced (part.Triplet l) at = l.now ≡ template_text (part_pieces (part.Triplet l))
IsPlaced (part.Expression o v) at = v.end - left_len v.text ≡ at + 1 + length (operator_text o)

-- the varspecs of a part, of which only an expression has some
abbrev pub HasVarSpecs : Part → VarSpecs → Type 0
HasVarSpecs (part.Literals l) v = v.text ≡ None
HasVarSpecs (part.Triplet l) v = v.text ≡ None
HasVarSpecs (part.Expression o w) v = v ≡ w

-- the text t is literals and then r; where r is all of it, none stands at its start
pub record IsPastLiterals (t r : List ℕ) : Type 0 where
  pub literals : List ℕ
  pub all : list_all literal_char literals ≡ true
  pub text : encode_utf8_all literals ++ r ≡ t
  pub stops : length r ≡ length t → literal_char (first_of (chars t)) ≡ false

-- what follows a brace, where it does
abbrev pub Follows : Option (Bor (List ℕ)) → List ℕ → Type 0
Follows None r = r ≡ []
Follows (Some x) r = r ≡ x.now

-- the text t, before which so many bytes stand, has the fault of r, which is its end
pub record IsPast (at : ℕ) (t r : List ℕ) : Type 0 where
  pub fault : fault_from 0 at t ≡ fault_from 0 (at + (length t - length r)) r
  pub shorter : length r < length t

-- it is p and then r
pub record IsPart (p : Part) (at : ℕ) (t r : List ℕ) : Type 0 where
  pub past : IsPast at t r
  pub pieces : pieces_of t ≡ part_pieces p ++ pieces_of r
  pub placed : IsPlaced p at

-- where it has no fault, the pieces spell p
pub record IsFirst (p : Part) (at : ℕ) (t r : List ℕ) : Type 0 where
  pub part : IsPart p at t r
  pub len : length t ≡ length (template_text (part_pieces p)) + length r
