use Rattle.iri_docs.proofs.FaultLemmas.{fault_is, tells_fault, tells_none}
use Rattle.iri_docs.proofs.values.read_value.Goals as goal

pub returns-in-Some : goal.returns-in-Some
returns-in-Some c = record { answer = λ _. fault_is _ _ c.in-Some.ensures; fault = tells_fault _ _ c.in-Some.ensures }

pub returns-in-None : goal.returns-in-None
returns-in-None c = record { answer = c.copy_value.ensures; fault = tells_none _ _ c.in-None.ensures }
