-- What is written for the events of a value, whose type is checked: a varspec with a prefix has no use for members.
use Rattle.std.specs.Prelude.{ℕ, is_some, Bool, true, false, cond, not, ◌&&◌, List, []}
use Rattle.std.specs.List.{list_any}
use Rattle.iri_grammar.specs.Classes.{Tests}
use Rattle.iri_template.specs.Events.{Event, StringTold, Item, Entry}
use Rattle.iri_template.specs.Expansion.{row_of, value_texts, prefix_of}
use Rattle.iri_template.specs.Portions.{Portion, varspec_portion}
use Rattle.iri_template.specs.ShownValues.{ShownValue}
use Rattle.iri_template.specs.inside.Members.{is_member}
use Rattle.iri_template.specs.inside.Written.{WriteState, event_step, event_text}
use Rattle.iri_template.specs.declared.value_writer.ExpressionState.{ExpressionState}
use Rattle.iri_template.specs.declared.varspec.Modifier.{Modifier}

abbrev pub has_prefix : Modifier → Bool
has_prefix m = is_some (prefix_of m)

-- how far the value was written; whether it had a member that was refused
pub record CheckState : Type 0 where
  pub write : WriteState
  pub mistyped : Bool

abbrev pub refuses : CheckState → Bool
refuses u = has_prefix u.write.modifier

-- a member, where members are refused
abbrev pub is_misfit : CheckState → Event → Bool
is_misfit u e = is_member e && refuses u

abbrev pub checked_step : CheckState → Event → CheckState
checked_step u e = cond (is_misfit u e) (record { write = u.write; mistyped = true })
    (record { write = event_step u.write e; mistyped = u.mistyped })

abbrev pub checked_text : Tests → CheckState → Event → List ℕ
checked_text s u e = cond (is_misfit u e) [] (event_text s u.write e)

-- whether a text is put for the event, where members may be refused
abbrev pub is_put : Bool → Event → Bool
is_put refused (StringTold t) = true
is_put refused (Item t) = not refused
is_put refused (Entry k t) = not refused
is_put refused e = false

abbrev pub puts_some : Bool → List Event → Bool
puts_some refused es = list_any (is_put refused) es

-- ---- a varspec as it is held
-- what it writes for a value
abbrev pub state_texts : Tests → ExpressionState → ShownValue → List (List ℕ)
state_texts s p told = value_texts s (row_of p.operator) p.name.text.now p.modifier told

-- its portion, with the value that is told to be written; whether the one before was mistyped
abbrev pub state_portion : Tests → ℕ → ExpressionState → Bool → ShownValue → Portion
state_portion s at p mistyped told = varspec_portion s p.operator at p.written p.name.text.now p.modifier mistyped told
