-- A simple context as a map from names to values.
use Rattle.std.specs.Prelude.{ℕ, Bool, true, false, cond, List, Option, Some, None}
use Rattle.std.specs.BTreeMap.{get_by_text}
use Rattle.iri_template.specs.ShownValues.{ShownValue, optional}
use Rattle.iri_template.specs.HeldValues.{shown_value}
use Rattle.iri_template.specs.declared.simple_context.SimpleContext.{SimpleContext}
use Rattle.iri_template.specs.declared.value.Value.{Value}
use Rattle.iri_template.specs.declared.value.Value.TheVariants.{Undefined}

-- the value at this name
abbrev pub value_at : SimpleContext → List ℕ → Option Value
value_at c name = get_by_text c.map name

abbrev pub is_undefined : Value → Bool
is_undefined Undefined = true
is_undefined _ = false

-- what an undefined value leaves is none
abbrev pub kept : Value → Option Value
kept v = cond (is_undefined v) None (Some v)

-- the value of a name: undefined where the map hasn't the name
abbrev pub value_in : SimpleContext → List ℕ → ShownValue
value_in c name = optional shown_value (value_at c name)
