use Rattle.iri_grammar.proofs.faults.MadeLaws.{made-authority, made-reading}
use Rattle.iri_grammar.proofs.laws.valid_parts_make_authorities.Goals as goal

pub returns : goal.returns
returns g c = record {
  authority = made-authority g.S.Spec.tests g.met.S.Spec.lawful;
  reading = made-reading g.S.Spec.tests g.met.S.Spec.lawful;
}
