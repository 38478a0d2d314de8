use Rattle.iri_grammar.specs.Classes.{uri_tests}
use Rattle.iri_grammar.specs.inside.Laws.{uri_is_spec}
use Rattle.iri_grammar.specs.Components.{is_query}
use Rattle.iri_grammar.proofs.faults.FaultLaws.{passed}
use Rattle.iri_grammar.specs.declared.error.ErrorKind.TheVariants.{InvalidQuery}
use Rattle.iri_percent.proofs.units.OfParts.{query-whole}
use Rattle.iri_text_tests.proofs.normal_forms.displayed_part.Goals as goal

pub new-requires : goal.new-requires
new-requires c = query-whole uri_tests c.args.text.now uri_is_spec
    (passed (is_query uri_tests c.args.text.now) InvalidQuery c.in-Ok.ensures)
