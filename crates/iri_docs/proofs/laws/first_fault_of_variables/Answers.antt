use Rattle.iri_docs.proofs.FaultLemmas.{first_fault_of}
use Rattle.iri_docs.proofs.laws.first_fault_of_variables.Goals as goal

pub returns : goal.returns
returns c = first_fault_of
