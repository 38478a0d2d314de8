use Rattle.iri_cli.proofs.Common.{◌∙◌, ◌∷◌, ◌++◌, [], ap, string_bytes, shown_value, optional}
use Rattle.iri_template.specs.ShownValues.{list}
use Rattle.iri_cli.specs.expand.Lines.{items_of}
use Rattle.iri_cli.proofs.ExpandLemmas.{set_again}
use Rattle.iri_cli.proofs.expand.variables.add_item.Goals as goal

pub returns-in-Ok : goal.returns-in-Ok
returns-in-Ok c =
    let taken = c.in_ok-old.ensures in
    let kept = items_of (optional shown_value c.in_ok-old.old) in
    let items = c.in-Ok.ensures.pushed ∙ ap (λ l. l ++ string_bytes c.in_ok-item.item ∷ []) c.list_of-items.ensures
    ∙ ap (λ t. kept ++ t ∷ []) c.in_ok-item.ensures.ok in
    set_again _ _ _ _ _ _ c.set.result taken.1 (ap list (items ∙ ap (λ v. items_of v ++ c.args.item.now ∷ []) taken.0)) c.set.ensures
