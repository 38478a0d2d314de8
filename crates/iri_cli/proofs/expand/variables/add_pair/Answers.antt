use Rattle.iri_cli.proofs.Common.{◌∙◌, ◌∷◌, ◌++◌, [], ap, string_bytes, shown_value, optional}
use Rattle.iri_template.specs.ShownValues.{pairs}
use Rattle.iri_cli.specs.expand.Lines.{entries_of}
use Rattle.iri_cli.proofs.ExpandLemmas.{set_again}
use Rattle.iri_cli.proofs.expand.variables.add_pair.Goals as goal

pub returns-in-Ok : goal.returns-in-Ok
returns-in-Ok c =
    let taken = c.in_ok-old.ensures in
    let kept = entries_of (optional shown_value c.in_ok-old.old) in
    let key = string_bytes c.in_ok-key.key in
    let value = string_bytes c.in_ok-value.value in
    let entries = c.in-Ok.ensures.pushed ∙ ap (λ l. l ++ (key, value) ∷ []) c.entries_of-entries.ensures
    ∙ ap (λ t. kept ++ (t, value) ∷ []) c.in_ok-key.ensures.ok ∙ ap (λ t. kept ++ (c.args.key.now, t) ∷ []) c.in_ok-value.ensures.ok in
    set_again _ _ _ _ _ _ c.set.result taken.1
    (ap pairs (entries ∙ ap (λ v. entries_of v ++ (c.args.key.now, c.args.value.now) ∷ []) taken.0)) c.set.ensures
