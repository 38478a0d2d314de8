use Rattle.iri_link.proofs.AnswerLemmas.{memory_refused}
use Rattle.iri_link.proofs.FieldLemmas.{links_of_faultless}
use Rattle.iri_link.specs.Readings.{links_in}
use Rattle.iri_link.proofs.set.read_valid.Goals as goal

pub returns-in-Ok : goal.returns-in-Ok
returns-in-Ok g c = record {
  links = links_in c.args.field.now;
  has = links_of_faultless g.S.Spec.tests c.args.field.now c.requires;
  resolves = c.in-Ok.ensures;
}

pub returns-in-Err : goal.returns-in-Err
returns-in-Err g c = memory_refused g.S.Spec.tests c.args.field.now c.requires c.in-Err.ensures
