use Rattle.iri_grammar.specs.Components.{is_query}
use Rattle.iri_grammar.proofs.faults.FaultLaws.{passed}
use Rattle.iri_grammar.specs.declared.error.ErrorKind.TheVariants.{InvalidQuery}
use Rattle.iri_percent.proofs.units.OfParts.{query-whole}
use Rattle.iri_text_tests.proofs.normal_forms.part.Goals as goal

pub new-requires : goal.new-requires
new-requires g c = query-whole g.S.Spec.tests c.args.text.now g.met.S.Spec.lawful
    (passed (is_query g.S.Spec.tests c.args.text.now) InvalidQuery c.in-Ok.ensures)
