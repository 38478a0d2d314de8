use Rattle.iri_grammar.proofs.Common.{◌∙◌, ap, sym, class_test, text_over}
use Rattle.iri_grammar.proofs.units.UnitRuns.{cut_decides}
use Rattle.iri_grammar.proofs.over.is_over.Goals as goal

pub returns : goal.returns
returns g c =
    let cut = c.cut_units in
    let p = class_test g.S.Spec.tests c.args.class in
    c.is_empty.ensures ∙ sym (ap (text_over p) (sym c.as_bytes.ensures.value ∙ cut.ensures.whole)
    ∙ cut_decides p cut.result.units.now cut.result.rest.now cut.ensures.over (cut.ensures.stops c.as_bytes.ensures.utf8))
