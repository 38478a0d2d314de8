use Rattle.iri_normal.proofs.Common.{◌∙◌, ap, split_of, split_text, canonical_in, base_text, takes_base_path}
use Rattle.iri_normal.specs.NormalizedText.{written}
use Rattle.iri_normal.proofs.canonical_texts.WrittenTexts.{made-normal_in, written-canonical_in}
use Rattle.iri_normal.proofs.canonical.canonicalize_against.Goals as goal

pub returns-in-Ok-try_to_dedicated_string : goal.returns-in-Ok-try_to_dedicated_string
returns-in-Ok-try_to_dedicated_string g c =
    let s = g.S.Spec.tests in
    let b = base_text c.of_split.result in
    let r = split_text c.in-Ok.reference in (
      c.in-Ok.ensures.fault,
      c.in-Ok-try_to_dedicated_string.ensures
          ∙ (written-canonical_in s c.args.mode b r (takes_base_path (split_of r)) (written c.and_normalize_in.result)
          (c.and_normalize_in.ensures ∙ ap (made-normal_in c.args.mode) c.resolve_split-target.ensures)
          ∙ (ap (λ x. canonical_in s c.args.mode x r) c.of_split.ensures ∙ ap (canonical_in s c.args.mode _) c.in-Ok.ensures.text)),
    )
