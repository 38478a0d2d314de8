use Rattle.iri_cli.proofs.ToolLaws.{answers_are_links}
use Rattle.iri_cli.proofs.laws.field_values_are_answered.Goals as goal

pub returns : goal.returns
returns g c = λ mode. answers_are_links g.S.Spec.tests mode g.met.S.Spec.lawful
