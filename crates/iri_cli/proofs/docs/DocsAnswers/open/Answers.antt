use Rattle.iri_cli.proofs.Common.{◌∙◌, refl, sym}
use Rattle.iri_cli.specs.declared.run.words.LineCommand.TheVariants.{Docs}
use Rattle.iri_cli.proofs.AlikeLaws.{alike, still_taken}
use Rattle.iri_cli.proofs.docs.DocsAnswers.open.Goals as goal

pub returns : goal.returns
returns g c = λ line p. record {
  stands = record { rules = refl; alike = alike g.S.Spec.tests line _ g.met.S.Spec.lawful p c.args.setup.mode Docs };
  taken = still_taken g.S.Spec.tests line _ g.met.S.Spec.lawful p;
  short = c.requires.short;
  expansion_room = sym c.in_ok-vec.field-0.ok.0 ∙ c.in_ok-vec.ensures.len;
  output_room = c.requires.room;
}
