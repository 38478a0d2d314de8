use Rattle.iri_cli.proofs.Common.{◌∙◌, ap, refl, sym, optional, shown_value}
use Rattle.std.proofs.Math.Path.{fun_ext}
use Rattle.iri_cli.specs.declared.run.words.LineCommand.TheVariants.{Expand}
use Rattle.iri_cli.proofs.AlikeLaws.{alike, still_taken}
use Rattle.iri_cli.proofs.expand.ExpandAnswers.open.Goals as goal

pub returns : goal.returns
returns g c = λ line p. record {
  rules = refl;
  alike = alike g.S.Spec.tests line _ g.met.S.Spec.lawful p c.args.setup.mode Expand;
  values_are = fun_ext (λ n. ap (optional shown_value) (c.new.ensures n));
  taken = still_taken g.S.Spec.tests line _ g.met.S.Spec.lawful p;
  short = c.requires.short;
  expansion_room = sym c.in_ok-vec.field-0.ok.0 ∙ c.in_ok-vec.ensures.len;
  output_room = c.requires.room;
}
