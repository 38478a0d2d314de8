use Rattle.iri_docs.proofs.Common.{sym, ◌∙◌, members_view, value_by_name, variables}
use Rattle.iri_docs.proofs.FaultLemmas.{fault_is, fault_mapped, tells_fault, tells_none}
use Rattle.iri_docs.proofs.variables.read_variables.Goals as goal

pub returns-in-Some : goal.returns-in-Some
returns-in-Some c =
    let is = c.in-Some.ensures ∙ sym (fault_mapped value_by_name (variables (members_view c.args.object.now.entries))) in
    record { answer = λ _. fault_is _ _ is; fault = tells_fault _ _ is }

pub returns-in-None : goal.returns-in-None
returns-in-None c =
    let is = c.in-None.ensures ∙ sym (fault_mapped value_by_name (variables (members_view c.args.object.now.entries))) in
    record { answer = c.copy_variables.ensures; fault = tells_none _ _ is }
