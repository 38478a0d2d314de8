-- The command `expand`: what a line says, and the values of variables after lines (RFC 6570 section 2.3).
use Rattle.std.specs.Prelude.{ℕ, ◌==◌, List, [], ◌∷◌, ◌++◌, Option, None, Some, if◌then◌else◌}
use Rattle.std.specs.Str.{bytes_eq, is_utf8}
use Rattle.iri_grammar.specs.Blanks.{space}
use Rattle.iri_grammar.specs.Cut.{before, after}
use Rattle.iri_template.specs.Names.{is_varname}
use Rattle.iri_template.specs.ShownValues.{ShownValue, undefined, string, list, pairs}

-- what becomes of a variable: it is this string; an item is put at the end of its list; a pair is put at the end of its associative array;
-- it has no value
pub data Change : Type 0 where
  sets : (name value : List ℕ) → Change
  adds_item : (name item : List ℕ) → Change
  adds_pair : (name key value : List ℕ) → Change
  unsets : (name : List ℕ) → Change

-- what a line says: a change of a variable, a template that is to be expanded, or nothing of these
pub data ExpandLine : Type 0 where
  changes : (change : Change) → ExpandLine
  expands : (template : List ℕ) → ExpandLine
  bad : ExpandLine

-- ---- Fields are parted by one space; the last field is the rest of the line, and may be empty or hold spaces.
abbrev pub if_name : List ℕ → Option (List ℕ) → Option (List ℕ × List ℕ)
if_name name None = None
if_name name (Some rest) = if is_varname name then Some (name, rest) else None

-- the name of a variable, and the fields after it
abbrev pub named : List ℕ → Option (List ℕ × List ℕ)
named fields = if_name (before space fields) (after space fields)

-- `NAME VALUE`, or `NAME ITEM`
abbrev pub field_line : (List ℕ → List ℕ → Change) → Option (List ℕ × List ℕ) → ExpandLine
field_line change None = bad
field_line change (Some p) = changes (change p.0 p.1)

-- `NAME KEY VALUE`; the key may be empty
abbrev pub with_key : List ℕ → List ℕ → Option (List ℕ) → ExpandLine
with_key name key None = bad
with_key name key (Some value) = changes (adds_pair name key value)

abbrev pub pair_line : Option (List ℕ × List ℕ) → ExpandLine
pair_line None = bad
pair_line (Some p) = with_key p.0 (before space p.1) (after space p.1)

-- `NAME`
abbrev pub unset_line : List ℕ → ExpandLine
unset_line name = if is_varname name then changes (unsets name) else bad

-- a line that changes a variable, by its letter and its fields: `s`, `l`, `a` or `u`
abbrev pub change_line : ℕ → List ℕ → ExpandLine
change_line letter fields =
    if letter == 115 then field_line sets (named fields)
    else (if letter == 108 then field_line adds_item (named fields)
    else (if letter == 97 then pair_line (named fields)
    else (if letter == 117 then unset_line fields else bad)))

-- a line by its letter and its fields: a template is any bytes after `t`; every other line is to be UTF-8
abbrev pub fields_line : ℕ → List ℕ → ExpandLine
fields_line letter fields = if letter == 116 then expands fields else (if is_utf8 fields then change_line letter fields else bad)

-- a letter, a space and fields
unfoldable pub line_of : List ℕ → ExpandLine
line_of (letter ∷ delimiter ∷ fields) = if delimiter == space then fields_line letter fields else bad
line_of line = bad

-- ---- the values of variables
abbrev pub Values : Type 0
Values = List ℕ → ShownValue

-- the same values, but for that of a name
abbrev pub with_value : Values → List ℕ → ShownValue → Values
with_value values name value other = if bytes_eq other name then value else values other

-- the items of a list, where the value is one
abbrev pub items_of : ShownValue → List (List ℕ)
items_of (list items) = items
items_of value = []

-- the pairs of an associative array, where the value is one
abbrev pub entries_of : ShownValue → List (List ℕ × List ℕ)
entries_of (pairs entries) = entries
entries_of value = []

-- the values after a change; a value of another kind gives way to the list or the array
abbrev pub changed : Values → Change → Values
changed values (sets name value) = with_value values name (string value)
changed values (adds_item name item) = with_value values name (list (items_of (values name) ++ item ∷ []))
changed values (adds_pair name key value) = with_value values name (pairs (entries_of (values name) ++ (key, value) ∷ []))
changed values (unsets name) = with_value values name undefined

-- the values after a line
abbrev pub after_line : Values → ExpandLine → Values
after_line values (changes change) = changed values change
after_line values (expands template) = values
after_line values bad = values

-- the values after lines, where they were these before
abbrev pub values_from : Values → List (List ℕ) → Values
values_from values [] = values
values_from values (line ∷ lines) = values_from (after_line values (line_of line)) lines

-- The values after the lines of an input so far. At first no variable has one.
abbrev pub values_after : List (List ℕ) → Values
values_after lines = values_from (λ name. undefined) lines
