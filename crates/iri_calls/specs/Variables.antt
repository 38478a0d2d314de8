-- The values of variables, as they cross.
use Rattle.std.specs.Prelude.{◌%◌, ◌==◌, ◌&&◌, ℕ, Bool, true, false, cond, find, length, map, List, [], ◌∷◌, Option}
use Rattle.std.specs.List.{list_all}
use Rattle.std.specs.Str.{is_utf8, bytes_eq}
use Rattle.iri_template.specs.Events.{pair_text}
use Rattle.iri_template.specs.ShownValues.{ShownValue, undefined, string, list, pairs, optional}
use Rattle.iri_calls.specs.declared.variables.TheConstants.{UNDEFINED, STRING, LIST, PAIRS}
use Rattle.iri_calls.specs.declared.variables.Text.{Text}
use Rattle.iri_calls.specs.declared.variables.Variable.{Variable}

-- the text of bytes that are UTF-8
abbrev pub shown : Text → List ℕ
shown t = cond (is_utf8 t.bytes.now) t.bytes.now []

-- each key with its value
abbrev pub paired : List Text → List (Text × Text)
paired [] = []
paired (k ∷ []) = []
paired (k ∷ v ∷ ts) = (k, v) ∷ paired ts

abbrev pub first_text : List Text → ShownValue
first_text [] = undefined
first_text (t ∷ ts) = string (shown t)

-- the value of a variable, by the number of its kind
unfoldable pub value_of : Variable → ShownValue
value_of v =
    cond (v.kind == STRING) (first_text v.values.now)
    (cond (v.kind == LIST) (list (map shown v.values.now))
    (cond (v.kind == PAIRS) (pairs (map (pair_text shown shown) (paired v.values.now))) undefined))

-- the first variable of a name
abbrev pub named : List Variable → List ℕ → Option Variable
named vs name = find (λ v. bytes_eq v.name.bytes.now name) vs

-- its value: undefined where there is none
abbrev pub value_in : List Variable → List ℕ → ShownValue
value_in vs name = optional value_of (named vs name)

-- whether a kind has so many texts
abbrev pub fits_kind : ℕ → ℕ → Bool
fits_kind kind count =
    cond (kind == UNDEFINED) (count == 0)
    (cond (kind == STRING) (count == 1) (cond (kind == LIST) true (cond (kind == PAIRS) (count % 2 == 0) false)))

abbrev pub all_utf8 : List Text → Bool
all_utf8 ts = list_all (λ t. is_utf8 t.bytes.now) ts

-- as many texts as its kind asks, each in UTF-8
unfoldable pub is_sound : Variable → Bool
is_sound v = fits_kind v.kind (length v.values.now) && all_utf8 v.values.now
