use Rattle.iri_grammar.proofs.faults.FaultLaws.{authority-passed}
use Rattle.iri_text_rows.proofs.grammar.authority_parts.Goals as goal

pub of-parts-requires : goal.of-parts-requires
of-parts-requires g c = authority-passed g.S.Spec.tests c.args.text.now c.in-Ok.ensures
