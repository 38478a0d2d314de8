use Rattle.iri_grammar.proofs.faults.FaultLaws.{authority-passed}
use Rattle.iri_text_rows.proofs.percent.normal_authority.Goals as goal

pub new-requires : goal.new-requires
new-requires g c = authority-passed g.S.Spec.tests c.args.text.now c.in-Ok.ensures
