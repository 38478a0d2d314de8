use Rattle.iri_cli.specs.declared.run.words.LineCommand.TheVariants.{Canon}
use Rattle.iri_cli.proofs.AlikeLaws.{writer_at}
use Rattle.iri_cli.proofs.canon.CanonAnswers.open.Goals as goal

pub returns : goal.returns
returns g c = λ line p. writer_at g.S.Spec.tests line _ g.met.S.Spec.lawful p c.args.mode Canon _ c.requires.short c.requires.room
