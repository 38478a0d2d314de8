-- The template document that a line of JSON is. What a line says as JSON is as `serde_json` defines it: an object then has each key once,
-- in the order of the keys' bytes, and the last value of a key stays.
use Rattle.std.specs.Prelude.{ℕ, List, [], ◌∷◌, ◌&&◌, ◌||◌, codes, decimal, Bool, true, false, bytes_eq, if◌then◌else◌}
use Rattle.std.specs.Prelude.{Option, Some, None, option_and_then, Result, Ok, Err}
use Rattle.std.specs.Fmt.{signed_decimal}
use Rattle.std.specs.Str.{is_utf8}
use Rattle.serde_json.specs.Data.{Num, unsigned, negative, float, Data, null, boolean, number, string, array, object}
use Rattle.serde_json.specs.Data.{Items, no_items, item, Members, no_members, member}
use Rattle.serde_json.specs.Find.{get, as_str, as_object}
use Rattle.serde_json.specs.Read.{read}
use Rattle.iri_template.specs.Names.{is_varname}
use Rattle.iri_template.specs.ShownValues as shown
use Rattle.iri_template.specs.ShownValues.{ShownValue}
use Rattle.iri_docs.specs.Held.{Held}
use Rattle.iri_docs.specs.declared.doc_error.DocError.{DocError}
use Rattle.iri_docs.specs.declared.doc_error.DocError.TheVariants.{Json, Shape, Name, Truth, Float, Nested}

-- ---- answers that may be faults
abbrev pub result_map : {A B : Type 0} → (A → B) → Result A DocError → Result B DocError
result_map f (Ok x) = Ok (f x)
result_map f (Err e) = Err e

abbrev pub result_and_then : {A B E : Type 0} → (A → Result B E) → Result A E → Result B E
result_and_then f (Ok x) = f x
result_and_then f (Err e) = Err e

-- an answer, where there is no fault
abbrev pub unless : {A E F : Type 0} → (F → E) → Option F → Result A E → Result A E
unless error None answer = answer
unless error (Some fault) answer = Err (error fault)

-- an answer and those after it: all of them, or the first fault
abbrev pub followed : {A : Type 0} → Result A DocError → Result (List A) DocError → Result (List A) DocError
followed (Ok x) rest = result_map (λ xs. x ∷ xs) rest
followed (Err e) rest = Err e

-- ---- the value of a variable (RFC 6570 section 2.3)
-- a whole number is its text in decimal; `serde_json` holds every other number as a float
abbrev pub whole_text : Num → Result (List ℕ) DocError
whole_text (unsigned n) = Ok (decimal n)
whole_text (negative z) = Ok (signed_decimal z)
whole_text (float x) = Err Float

-- a text in an array or an object
abbrev pub inner_text : Data → Result (List ℕ) DocError
inner_text null = Err Nested
inner_text (boolean b) = Err Truth
inner_text (number n) = whole_text n
inner_text (string s) = Ok s
inner_text (array ds) = Err Nested
inner_text (object ms) = Err Nested

abbrev pub inner_texts : Items → Result (List (List ℕ)) DocError
inner_texts no_items = Ok []
inner_texts (item d ds) = followed (inner_text d) (inner_texts ds)

abbrev pub inner_pairs : Members → Result (List (List ℕ × List ℕ)) DocError
inner_pairs no_members = Ok []
inner_pairs (member k d ms) = followed (result_map (λ s. (k, s)) (inner_text d)) (inner_pairs ms)

abbrev pub value : Data → Result ShownValue DocError
value null = Ok shown.undefined
value (boolean b) = Err Truth
value (number n) = result_map shown.string (whole_text n)
value (string s) = Ok (shown.string s)
value (array ds) = result_map shown.list (inner_texts ds)
value (object ms) = result_map shown.pairs (inner_pairs ms)

-- ---- variables
-- a variable by its name, which is tested before its value
abbrev pub variable : List ℕ → Data → Result (List ℕ × ShownValue) DocError
variable k d = if is_varname k then result_map (λ v. (k, v)) (value d) else Err Name

abbrev pub variables : Members → Result (List (List ℕ × ShownValue)) DocError
variables no_members = Ok []
variables (member k d ms) = followed (variable k d) (variables ms)

-- the value of a name among variables, of the last one that has it; `before` where none has it
abbrev pub value_among : ShownValue → List (List ℕ × ShownValue) → List ℕ → ShownValue
value_among before [] n = before
value_among before (e ∷ es) n = value_among (if bytes_eq n e.0 then e.1 else before) es n

-- a name that no variable has is undefined
abbrev pub value_by_name : List (List ℕ × ShownValue) → List ℕ → ShownValue
value_by_name es n = value_among shown.undefined es n

-- ---- the document
abbrev pub is_known : List ℕ → Bool
is_known k = bytes_eq k (codes "template") || bytes_eq k (codes "vars")

-- no member but `template` and `vars`
abbrev pub all_known : Members → Bool
all_known no_members = true
all_known (member k d ms) = is_known k && all_known ms

-- an object, with no other member
abbrev pub has_only_known : Option Members → Bool
has_only_known None = false
has_only_known (Some ms) = all_known ms

-- the text of the member `template`
abbrev pub template_text : Data → Option (List ℕ)
template_text d = option_and_then as_str (get (codes "template") d)

-- the values of variables in an object
abbrev pub object_vars : Option Members → Result (List ℕ → ShownValue) DocError
object_vars None = Err Shape
object_vars (Some ms) = result_map value_by_name (variables ms)

-- the values of the member `vars`, which is an object; no value where there is no such member
abbrev pub vars_of : Option Data → Result (List ℕ → ShownValue) DocError
vars_of None = Ok (value_by_name [])
vars_of (Some d) = object_vars (as_object d)

abbrev pub with_vars : Option (List ℕ) → Result (List ℕ → ShownValue) DocError → Result Held DocError
with_vars None vars = Err Shape
with_vars (Some t) vars = result_map (λ v. record { template = t; value_of = v }) vars

-- the document that a value is, or its first fault
abbrev pub document : Data → Result Held DocError
document d = if has_only_known (as_object d) then with_vars (template_text d) (vars_of (get (codes "vars") d)) else Err Shape

abbrev pub reading : Option Data → Result Data DocError
reading None = Err Json
reading (Some d) = Ok d

-- the value that a line is, where it is UTF-8 and has a reading
abbrev pub line_value : List ℕ → Result Data DocError
line_value line = if is_utf8 line then reading (read line) else Err Json

-- the document that a line is, or its first fault
abbrev pub line_document : List ℕ → Result Held DocError
line_document line = result_and_then document (line_value line)
