use Rattle.iri_cli.proofs.Common.{refl}
use Rattle.iri_cli.specs.declared.run.words.LineCommand.TheVariants.{ToUri}
use Rattle.iri_cli.proofs.AlikeLaws.{alike}
use Rattle.iri_cli.proofs.to_uri.ToUriAnswers.open.Goals as goal

pub returns : goal.returns
returns g c = λ line p. record { rules = refl; alike = alike g.S.Spec.tests line _ g.met.S.Spec.lawful p c.args.mode ToUri }
