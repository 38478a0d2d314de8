use Rattle.iri_link.proofs.GrammarLemmas.{field-given, one_list}
use Rattle.iri_link.proofs.WrittenLemmas.{one_kept}
use Rattle.iri_link.proofs.laws.field_values_have_one_list.Goals as goal

pub returns-clause-links : goal.returns-clause-links
returns-clause-links g c = one_list g.S.Spec.tests

pub returns-clause-value : goal.returns-clause-value
returns-clause-value g c = λ x links is. (field-given g.S.Spec.tests x links is).0

pub returns-clause-kept : goal.returns-clause-kept
returns-clause-kept g c = one_kept g.S.Spec.tests
