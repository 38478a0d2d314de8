use Rattle.iri_edit.proofs.Common.{◌≡◌, ◌∙◌, ap, subst, false, List, ℕ, IfOk, string_bytes, recompose, split_of}
use Rattle.iri_normal.specs.Normalized.{Written, written_text}
use Rattle.iri_normal.specs.declared.mode.Mode.TheVariants.{Normal}
use Rattle.iri_percent.specs.declared.canon_mode.CanonMode.TheVariants.{Default}
use Rattle.iri_normal.proofs.normal_forms.SchemeRules.{form-is}
use Rattle.iri_edit.proofs.recomposed.normal_text.Goals as goal

abbrev in_normal_form : List ℕ → Written
in_normal_form text = record { parts = split_of text; whole = false; mode = Normal }

pub returns : goal.returns
returns g c =
    subst (λ t. IfOk c.try_to_string.result (λ normal. string_bytes normal ≡ t))
    (ap (written_text g.S.Spec.tests) (c.normalize.ensures ∙ ap in_normal_form c.from_valid.ensures)
    ∙ ap recompose (form-is g.S.Spec.tests Default false (split_of c.args.text.now)))
    c.try_to_string.ensures
