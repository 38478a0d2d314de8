use Rattle.iri_cli.proofs.Common.{refl, canon_rules_in}
use Rattle.iri_cli.proofs.BytesLemmas.{canonical_answers}
use Rattle.iri_cli.proofs.RunLemmas.{never_two, never_six}
use Rattle.iri_cli.proofs.canon.calls.canon_lines_in.Goals as goal

pub returns-clause-a_command : goal.returns-clause-a_command
returns-clause-a_command g c = never_two _ _ _ c.run_lines.result c.run_lines.ensures

pub returns-clause-in_memory : goal.returns-clause-in_memory
returns-clause-in_memory g c = never_six (canon_rules_in g.S.Spec.tests c.args.mode) _ _ refl (λ _ _ _. refl) _ c.run_lines.ensures

pub returns-clause-canonical : goal.returns-clause-canonical
returns-clause-canonical g c = canonical_answers g.S.Spec.tests c.args.mode g.met.S.Spec.lawful
