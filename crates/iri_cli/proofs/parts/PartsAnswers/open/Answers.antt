use Rattle.iri_cli.specs.declared.run.words.LineCommand.TheVariants.{Parts}
use Rattle.iri_cli.proofs.AlikeLaws.{writer_at}
use Rattle.iri_cli.proofs.parts.PartsAnswers.open.Goals as goal

pub returns : goal.returns
returns g c = λ line p. writer_at g.S.Spec.tests line _ g.met.S.Spec.lawful p c.args.mode Parts _ c.requires.short c.requires.room
