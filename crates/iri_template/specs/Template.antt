-- URI templates (RFC 6570 section 2): a list of literals, triplets and expressions, and the text that they spell. A text is the list of its bytes.
use Rattle.std.specs.Prelude.{◌≡◌, ℕ, Bool, true, false, not, ◌&&◌, ◌==◌, nat_le, List, [], ◌∷◌, ◌++◌, map, length}
use Rattle.std.specs.Char.{encode_utf8, is_ascii_digit, is_ascii_hexdigit}
use Rattle.std.specs.List.{list_all, flat_map}
use Rattle.iri_grammar.specs.Classes.{any_char, iri_tests}
use Rattle.iri_grammar.specs.Pieces.{joined}
use Rattle.iri_template.specs.Names.{is_varname}
use Rattle.iri_template.specs.declared.operator.Operator.{Operator}
use Rattle.iri_template.specs.declared.operator.Operator.TheVariants.{Simple, Reserved, Fragment, Label, PathSegment, PathParameter}
use Rattle.iri_template.specs.declared.operator.Operator.TheVariants.{FormQuery, FormContinuation}
use Rattle.iri_grammar.specs.Characters.{ampersand, asterisk, colon, comma, dot, left_brace, number_sign, percent_sign, plus_sign}
use Rattle.iri_grammar.specs.Characters.{question_mark, right_brace, semicolon, slash}

-- ---- what a template is made of
-- how much of a value is meant (section 2.4): all of it, its members one by one, or its first characters, so many as a number says
pub data Modifier : Type 0 where
  whole : Modifier
  explode : Modifier
  prefix : (max_length : List ℕ) → Modifier

-- a `varspec` (section 2.3): a variable's name, and a modifier
pub record VarSpec : Type 0 where
  pub name : List ℕ
  pub modifier : Modifier

-- a character that stands for itself, a triplet of these two digits, or an expression
pub data Piece : Type 0 where
  literal : (c : ℕ) → Piece
  triplet : (a b : ℕ) → Piece
  expression : (operator : Operator) → (varspecs : List VarSpec) → Piece

-- ---- which of them are well-formed
-- `literals` (section 2.1), triplets apart: the characters of references, `'` among them (erratum 6937), and past ASCII those of IRIs, `ucschar`
-- and `iprivate`
abbrev pub literal_char : ℕ → Bool
literal_char c = any_char iri_tests c

-- `max-length` (section 2.4.1): one to four digits, and no zero is the first
unfoldable pub is_max_length : List ℕ → Bool
is_max_length [] = false
is_max_length (d ∷ ds) = not (d == 48) && list_all is_ascii_digit (d ∷ ds) && nat_le (length (d ∷ ds)) 4

abbrev pub is_modifier : Modifier → Bool
is_modifier whole = true
is_modifier explode = true
is_modifier (prefix ds) = is_max_length ds

abbrev pub is_varspec : VarSpec → Bool
is_varspec v = is_varname v.name && is_modifier v.modifier

abbrev pub has_some : {A : Type 0} → List A → Bool
has_some [] = false
has_some (x ∷ xs) = true

-- an expression (section 2.2) has one or more varspecs
abbrev pub is_piece : Piece → Bool
is_piece (literal c) = literal_char c
is_piece (triplet a b) = is_ascii_hexdigit a && is_ascii_hexdigit b
is_piece (expression operator vs) = has_some vs && list_all is_varspec vs

-- ---- what they spell
abbrev pub modifier_text : Modifier → List ℕ
modifier_text whole = []
modifier_text explode = asterisk ∷ []
modifier_text (prefix ds) = colon ∷ ds

abbrev pub varspec_text : VarSpec → List ℕ
varspec_text v = v.name ++ modifier_text v.modifier

-- `operator` (section 2.2): a simple expression has none
abbrev pub operator_text : Operator → List ℕ
operator_text Simple = []
operator_text Reserved = plus_sign ∷ []
operator_text Fragment = number_sign ∷ []
operator_text Label = dot ∷ []
operator_text PathSegment = slash ∷ []
operator_text PathParameter = semicolon ∷ []
operator_text FormQuery = question_mark ∷ []
operator_text FormContinuation = ampersand ∷ []

-- what stands between the braces: an operator, and varspecs parted by commas
abbrev pub body_text : Operator → List VarSpec → List ℕ
body_text operator vs = operator_text operator ++ joined comma (map varspec_text vs)

abbrev pub piece_text : Piece → List ℕ
piece_text (literal c) = encode_utf8 c
piece_text (triplet a b) = percent_sign ∷ a ∷ b ∷ []
piece_text (expression operator vs) = left_brace ∷ (body_text operator vs ++ right_brace ∷ [])

-- ---- templates
abbrev pub template_text : List Piece → List ℕ
template_text ps = flat_map piece_text ps

-- the text t is spelled by these pieces
pub record Spells (ps : List Piece) (t : List ℕ) : Type 0 where
  pub pieces : list_all is_piece ps ≡ true
  pub text : template_text ps ≡ t

-- `URI-Template` (section 2)
abbrev pub IsTemplate : List ℕ → Type 0
IsTemplate t = (ps : List Piece) × Spells ps t

-- ---- its variables, in the order of the expressions, each as often as it stands there
abbrev pub piece_names : Piece → List (List ℕ)
piece_names (expression operator vs) = map (λ v. v.name) vs
piece_names p = []

abbrev pub names_of : List Piece → List (List ℕ)
names_of ps = flat_map piece_names ps
