-- What is written for the events of a value, one by one.
use Rattle.std.specs.Prelude.{ℕ, Bool, true, cond, not, ◌&&◌, List, [], ◌∷◌, ◌++◌, None}
use Rattle.iri_grammar.specs.Classes.{Tests}
use Rattle.iri_template.specs.Events.{Event, StringTold, Item, Entry}
use Rattle.iri_template.specs.Expansion.{Row, row_of, lead, shown_text, string_text, pair_with, explodes, prefix_of}
use Rattle.iri_template.specs.declared.operator.Operator.{Operator}
use Rattle.iri_template.specs.declared.value_writer.ExpressionState.{ExpressionState}
use Rattle.iri_template.specs.declared.varspec.Modifier.{Modifier}

-- how a variable is written; whether the expression has a text before, and this value a member
pub record WriteState : Type 0 where
  pub operator : Operator
  pub name : List ℕ
  pub modifier : Modifier
  pub written : Bool
  pub member : Bool

abbrev pub write_state : ExpressionState → WriteState
write_state p = record { operator = p.operator; name = p.name.text.now; modifier = p.modifier; written = p.written; member = p.member }

abbrev pub name_part : Row → List ℕ → List ℕ
name_part row name = cond row.named (name ++ 61 ∷ []) []

-- what stands before a member: that, with the name where names are written; in one text, a comma after the first
abbrev pub item_lead : WriteState → List ℕ
item_lead w = cond (w.member && not (explodes w.modifier)) (44 ∷ [])
    (lead (row_of w.operator) w.written ++ name_part (row_of w.operator) w.name)

abbrev pub entry_lead : WriteState → List ℕ
entry_lead w = cond (explodes w.modifier) (lead (row_of w.operator) w.written) (item_lead w)

abbrev pub entry_delimiter : Modifier → ℕ
entry_delimiter m = cond (explodes m) 61 44

abbrev pub event_step : WriteState → Event → WriteState
event_step w (StringTold t) = record { operator = w.operator; name = w.name; modifier = w.modifier; written = true; member = w.member }
event_step w (Item t) = record { operator = w.operator; name = w.name; modifier = w.modifier; written = true; member = true }
event_step w (Entry k t) = record { operator = w.operator; name = w.name; modifier = w.modifier; written = true; member = true }
event_step w e = w

abbrev pub event_text : Tests → WriteState → Event → List ℕ
event_text s w (StringTold t) = lead (row_of w.operator) w.written
    ++ string_text (row_of w.operator) w.name (shown_text s (row_of w.operator).allow (prefix_of w.modifier) t)
event_text s w (Item t) = item_lead w ++ shown_text s (row_of w.operator).allow None t
event_text s w (Entry k t) = entry_lead w ++ pair_with (entry_delimiter w.modifier)
    (shown_text s (row_of w.operator).allow None k, shown_text s (row_of w.operator).allow None t)
event_text s w e = []
