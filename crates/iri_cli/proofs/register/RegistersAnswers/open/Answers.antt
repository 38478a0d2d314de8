use Rattle.iri_cli.proofs.Common.{◌∙◌, base_text}
use Rattle.iri_cli.specs.declared.run.words.LineCommand.TheVariants.{Register}
use Rattle.iri_cli.proofs.AlikeLaws.{alike}
use Rattle.iri_cli.proofs.RegisterLemmas.{register_opened}
use Rattle.iri_cli.proofs.register.RegistersAnswers.open.Goals as goal

pub returns : goal.returns
returns g c = λ line p.
    let s = g.S.Spec.tests in
    register_opened s c.args.setup.mode c.new_in.result line (base_text c.args.resolver.now) (alike s line _ g.met.S.Spec.lawful p c.args.setup.mode Register)
    (c.new_in.ensures.base ∙ c.in_ok-base.ensures ∙ c.base.ensures) c.new_in.ensures.mode c.new_in.ensures.entries
