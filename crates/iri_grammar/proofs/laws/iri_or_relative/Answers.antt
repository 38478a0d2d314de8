use Rattle.iri_grammar.proofs.splits.SplitUnique.{reference-kinds, never_both}
use Rattle.iri_grammar.proofs.laws.iri_or_relative.Goals as goal

pub returns-clause-either : goal.returns-clause-either
returns-clause-either g c = reference-kinds g.S.Spec.tests

pub returns-clause-never_both : goal.returns-clause-never_both
returns-clause-never_both g c = never_both g.S.Spec.tests g.met.S.Spec.lawful
