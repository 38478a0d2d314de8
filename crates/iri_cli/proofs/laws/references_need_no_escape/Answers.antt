use Rattle.iri_cli.proofs.Unescaped.{reference_unescaped}
use Rattle.iri_cli.proofs.laws.references_need_no_escape.Goals as goal

pub returns : goal.returns
returns g c t r = reference_unescaped g.S.Spec.tests g.met.S.Spec.lawful t r
