use Rattle.iri_link.proofs.WrittenLemmas.{written_again}
use Rattle.iri_link.proofs.laws.written_links_are_read.Goals as goal

pub returns : goal.returns
returns g c = written_again g.S.Spec.tests g.met.S.Spec.lawful
