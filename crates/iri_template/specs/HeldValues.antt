-- What a simple context's values are.
use Rattle.iri_template.specs.ShownValues.{ShownValue, undefined, string, list, pairs}
use Rattle.iri_template.specs.declared.value.Value.{Value}
use Rattle.iri_template.specs.declared.value.Value.TheVariants as held

abbrev pub shown_value : Value → ShownValue
shown_value held.Undefined = undefined
shown_value (held.String text) = string text
shown_value (held.List items) = list items
shown_value (held.Assoc entries) = pairs entries
