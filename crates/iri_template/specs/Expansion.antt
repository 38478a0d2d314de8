-- The expansion of templates (RFC 6570 section 3.2). A variable writes a list of texts: none where it is undefined or has no members, one, or one for each member where it is exploded.
use Rattle.std.specs.Prelude.{ℕ, Bool, true, false, cond, List, [], ◌∷◌, ◌++◌, Option, None, Some, map, take}
use Rattle.std.specs.List.{flat_map}
use Rattle.std.specs.Str.{chars}
use Rattle.iri_grammar.specs.Classes.{Tests, unreserved, any_char}
use Rattle.iri_grammar.specs.Pieces.{joined}
use Rattle.iri_percent.specs.Units.{TextUnit, Plain, Char, Lone, Stray, IllFormed, units}
use Rattle.iri_percent.specs.Mapping as mapping
use Rattle.iri_percent.specs.Encoding.{encoded_char}
use Rattle.iri_template.specs.Template.{VarSpec, Piece, literal, triplet, expression}
use Rattle.iri_template.specs.VarSpecs.{held}
use Rattle.iri_template.specs.ShownValues.{ShownValue, undefined, string, list, pairs}
use Rattle.iri_template.specs.declared.varspec.Modifier.{Modifier}
use Rattle.iri_template.specs.declared.varspec.Modifier.TheVariants.{Explode, Prefix}
use Rattle.iri_template.specs.declared.operator.Operator.{Operator}
use Rattle.iri_template.specs.declared.operator.Operator.TheVariants.{Simple, Reserved, Fragment, Label, PathSegment, PathParameter}
use Rattle.iri_template.specs.declared.operator.Operator.TheVariants.{FormQuery, FormContinuation}
use Rattle.iri_grammar.specs.Characters.{ampersand, comma, dot, equals_sign, number_sign, percent_sign, question_mark, semicolon, slash}

-- ---- operators (section 3.2.1, appendix A): what stands before the first text of an expression, and between two; whether names are written, and what follows the name of an empty string; whether reserved characters and triplets stay
pub record Row : Type 0 where
  pub first : List ℕ
  pub sep : ℕ
  pub named : Bool
  pub ifemp : List ℕ
  pub allow : Bool

abbrev pub row_of : Operator → Row
row_of Simple = record { first = []; sep = comma; named = false; ifemp = []; allow = false }
row_of Reserved = record { first = []; sep = comma; named = false; ifemp = []; allow = true }
row_of Fragment = record { first = number_sign ∷ []; sep = comma; named = false; ifemp = []; allow = true }
row_of Label = record { first = dot ∷ []; sep = dot; named = false; ifemp = []; allow = false }
row_of PathSegment = record { first = slash ∷ []; sep = slash; named = false; ifemp = []; allow = false }
row_of PathParameter = record { first = semicolon ∷ []; sep = semicolon; named = true; ifemp = []; allow = false }
row_of FormQuery = record { first = question_mark ∷ []; sep = ampersand; named = true; ifemp = equals_sign ∷ []; allow = false }
row_of FormContinuation = record { first = ampersand ∷ []; sep = ampersand; named = true; ifemp = equals_sign ∷ []; allow = false }

-- ---- encoding (section 3.2.1)
-- the first so many, or all
abbrev pub limited : {A : Type 0} → Option ℕ → List A → List A
limited None xs = xs
limited (Some n) xs = take n xs

-- the units of a text (RFC 3986 section 2.1), read from its characters, so that one past ASCII is one unit
abbrev pub text_units : List ℕ → List TextUnit
text_units t = units (chars t)

-- what a unit becomes where reserved characters and triplets stay: a triplet stands as it is, and a `%` that begins none is `%25`
abbrev pub kept_unit : Tests → TextUnit → List ℕ
kept_unit s (Plain c) = encoded_char (any_char s) c
kept_unit s (Char c spelling) = spelling
kept_unit s (Lone a b) = percent_sign ∷ a ∷ b ∷ []
kept_unit s Stray = percent_sign ∷ 50 ∷ 53 ∷ []
kept_unit s (IllFormed b) = mapping.triplet b

-- A text, or its first characters, encoded (section 2.4.1). Where triplets stay, the first units: a character in triplets is one, and so is a triplet where none begins.
abbrev pub shown_text : Tests → Bool → Option ℕ → List ℕ → List ℕ
shown_text s true n t = flat_map (kept_unit s) (limited n (text_units t))
shown_text s false n t = flat_map (encoded_char (unreserved s)) (limited n (chars t))

-- ---- variables (sections 3.2.2 to 3.2.9)
-- `=` and the text after the name of a string; where it is empty, what the operator has
abbrev pub after_name : List ℕ → List ℕ → List ℕ
after_name ifemp [] = ifemp
after_name ifemp (x ∷ xs) = equals_sign ∷ x ∷ xs

abbrev pub string_text : Row → List ℕ → List ℕ → List ℕ
string_text row name t = cond row.named (name ++ after_name row.ifemp t) t

-- The name and `=` before a text, where names are written. A member that is empty has the `=` too: that is a choice of this project, for appendix A has what the operator has there, which differs for `;`.
abbrev pub named_text : Row → List ℕ → List ℕ → List ℕ
named_text row name t = cond row.named (name ++ equals_sign ∷ t) t

-- a key and a value: parted by `=` where they are exploded, which stands before an empty value too, by the same choice
abbrev pub pair_with : ℕ → List ℕ × List ℕ → List ℕ
pair_with delimiter p = p.0 ++ delimiter ∷ p.1

-- one text for all members, parted by commas; none where there is no member
abbrev pub in_one : Row → List ℕ → List (List ℕ) → List (List ℕ)
in_one row name [] = []
in_one row name (t ∷ ts) = named_text row name (joined comma (t ∷ ts)) ∷ []

-- the members are told one by one
abbrev pub explodes : Modifier → Bool
explodes Explode = true
explodes m = false

-- how many characters or units of a string are meant
abbrev pub prefix_of : Modifier → Option ℕ
prefix_of (Prefix n) = Some n
prefix_of m = None

abbrev pub shown_pair : Tests → Bool → List ℕ × List ℕ → List ℕ × List ℕ
shown_pair s allow p = (shown_text s allow None p.0, shown_text s allow None p.1)

-- what a variable writes. A prefix is for strings alone.
abbrev pub value_texts : Tests → Row → List ℕ → Modifier → ShownValue → List (List ℕ)
value_texts s row name m undefined = []
value_texts s row name m (string t) = string_text row name (shown_text s row.allow (prefix_of m) t) ∷ []
value_texts s row name m (list items) =
    cond (explodes m) (map (named_text row name) (map (shown_text s row.allow None) items))
    (in_one row name (map (shown_text s row.allow None) items))
value_texts s row name m (pairs entries) =
    cond (explodes m) (map (pair_with equals_sign) (map (shown_pair s row.allow) entries))
    (in_one row name (map (pair_with comma) (map (shown_pair s row.allow) entries)))

-- ---- expressions and templates
-- the operator's first text, or its separator
abbrev pub lead : Row → Bool → List ℕ
lead row written = cond written (row.sep ∷ []) row.first

-- texts, each after that; `written` says whether the expression has one before them
abbrev pub led : Row → Bool → List (List ℕ) → List ℕ
led row written [] = []
led row written (t ∷ ts) = (lead row written ++ t) ++ led row true ts

abbrev pub varspec_texts : Tests → Operator → (List ℕ → ShownValue) → VarSpec → List (List ℕ)
varspec_texts s operator value v = value_texts s (row_of operator) v.name (held v.modifier) (value v.name)

-- A literal that may stand in a reference stands as it is, and past ASCII it becomes its triplets where that is a URI; triplets outside
-- expressions stand as they are (section 3.1).
abbrev pub piece_expansion : Tests → (List ℕ → ShownValue) → Piece → List ℕ
piece_expansion s value (literal c) = encoded_char (any_char s) c
piece_expansion s value (triplet a b) = percent_sign ∷ a ∷ b ∷ []
piece_expansion s value (expression operator vs) = led (row_of operator) false (flat_map (varspec_texts s operator value) vs)

-- the text of a template's pieces, where names have these values
abbrev pub expansion : Tests → (List ℕ → ShownValue) → List Piece → List ℕ
expansion s value ps = flat_map (piece_expansion s value) ps
