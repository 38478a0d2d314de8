use Rattle.iri_cli.proofs.GenReferences.{base_taken, no_fault_of_made}
use Rattle.iri_cli.proofs.laws.references_of_gen_have_no_fault.Goals as goal

pub returns-clause-references : goal.returns-clause-references
returns-clause-references g c = no_fault_of_made g.S.Spec.tests g.met.S.Spec.lawful

pub returns-clause-base : goal.returns-clause-base
returns-clause-base g c = base_taken g.S.Spec.tests g.met.S.Spec.lawful
