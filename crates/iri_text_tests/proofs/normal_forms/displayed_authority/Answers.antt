use Rattle.iri_grammar.specs.Classes.{uri_tests}
use Rattle.iri_grammar.proofs.faults.FaultLaws.{authority-passed}
use Rattle.iri_text_tests.proofs.normal_forms.displayed_authority.Goals as goal

pub new-requires : goal.new-requires
new-requires c = authority-passed uri_tests c.args.text.now c.in-Ok.ensures
