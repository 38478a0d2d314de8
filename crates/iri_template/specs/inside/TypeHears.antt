-- What a visitor that learns the type of a value does with what it is told.
use Rattle.std.specs.Prelude.{◌≡◌, ◌||◌, List}
use Rattle.std.proofs.Common.{sym, ◌∙◌, ap}
use Rattle.std.proofs.Math.Bool.{or-false, or_assoc}
use Rattle.std.proofs.lemmas.List.Folds.{list_any-append}
use Rattle.iri_text.specs.Shown.{AreSinkLaws}
use Rattle.iri_template.specs.Events.{Event}
use Rattle.iri_template.specs.inside.Members.{is_member, has_member}
use Rattle.iri_template.specs.declared.type_check.TypeCheck.{TypeCheck}

-- it keeps whether a member was told
abbrev pub TypeHears : TypeCheck → List Event → TypeCheck → Type 0
TypeHears a events b = b.members ≡ a.members || has_member events

-- it never stops
abbrev pub TypeHalts : TypeCheck → List Event → TypeCheck → Type 0
TypeHalts a events b = ⊥

pub type_rules : AreSinkLaws TypeHears TypeHalts
type_rules = record {
  none = λ a. sym (or-false a.members);
  both = λ a b c t u p q. q ∙ ap (λ x. x || has_member u) p ∙ or_assoc a.members (has_member t) (has_member u)
      ∙ ap (λ x. a.members || x) (sym (list_any-append is_member t u));
  until = λ a b c t u p h. h;
  within = λ a b t u h. h;
}
