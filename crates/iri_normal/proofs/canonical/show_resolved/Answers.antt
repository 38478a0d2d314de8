use Rattle.iri_normal.proofs.Common.{◌∙◌, ap, split_of, split_text, base_text, takes_base_path}
use Rattle.iri_normal.specs.NormalizedText.{written}
use Rattle.iri_normal.proofs.canonical_texts.WrittenTexts.{made-normal_in, written-canonical_in}
use Rattle.iri_normal.proofs.ShownTexts.{shows_same}
use Rattle.iri_normal.proofs.canonical.show_resolved.Goals as goal

pub returns : goal.returns
returns g c =
    let b = base_text c.args.resolver.now in
    let r = split_text c.args.reference.now in
    shows_same (written-canonical_in g.S.Spec.tests c.args.mode b r (takes_base_path (split_of r)) (written c.and_normalize_in.result)
    (c.and_normalize_in.ensures ∙ ap (made-normal_in c.args.mode) c.resolve_split.ensures)) c.show.ensures
