use Rattle.iri_link.proofs.WrittenLemmas.{one_kept, read_again}
use Rattle.iri_link.specs.Written.{written}
use Rattle.iri_link.proofs.laws.written_sets_are_read.Goals as goal

pub returns-clause-read : goal.returns-clause-read
returns-clause-read g c = λ mode base x other kept absolute read. read_again g.S.Spec.tests g.met.S.Spec.lawful mode base other absolute x kept read

pub returns-clause-same : goal.returns-clause-same
returns-clause-same g c = λ mode base x other kept again absolute read next.
    one_kept g.S.Spec.tests mode other (written kept) again kept next (read_again g.S.Spec.tests g.met.S.Spec.lawful mode base other absolute x kept read)
