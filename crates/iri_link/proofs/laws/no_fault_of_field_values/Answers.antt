use Rattle.iri_link.specs.Readings.{links_in}
use Rattle.iri_link.proofs.FieldLemmas.{links_of_faultless}
use Rattle.iri_link.proofs.GrammarLemmas.{links_without_fault}
use Rattle.iri_link.proofs.laws.no_fault_of_field_values.Goals as goal

pub returns-clause-fields : goal.returns-clause-fields
returns-clause-fields g c = λ x.
    (λ h. (links_in x, links_of_faultless g.S.Spec.tests x h), λ l. links_without_fault g.S.Spec.tests x l.0 l.1)

pub returns-clause-links : goal.returns-clause-links
returns-clause-links g c = links_of_faultless g.S.Spec.tests
