use Rattle.iri_resolve.proofs.Common.{refl, sym, ◌∙◌, ap, subst, step_in, Reaches, parts_of, went}
use Rattle.iri_resolve.proofs.ReachedLemmas.{stepped}
use Rattle.iri_resolve.proofs.replay.take_numbered.Goals as goal

pub returns-then-not-went-clause-step : goal.returns-then-not-went-clause-step
returns-then-not-went-clause-step g c =
    (refl, sym c.in-Ok.ensures.parts ∙ ap (λ b. went b (parts_of c.take_step.new.reached)) c.if-not-went.true)

pub returns-clause-step : goal.returns-clause-step
returns-clause-step g c =
    let s = g.S.Spec.tests in
    let r = c.args.reached.now in
    let o = subst (λ b. Reaches s (step_in s c.args.mode (parts_of r) c.args.next) b c.take_step.new.reached) c.if-not-went.false c.in-Ok.ensures in
    (stepped s c.args.mode r c.take_step.new.reached c.args.next g.met.S.Spec.lawful c.requires o).0

pub returns-clause-holds : goal.returns-clause-holds
returns-clause-holds g c =
    let s = g.S.Spec.tests in
    let r = c.args.reached.now in
    let o = subst (λ b. Reaches s (step_in s c.args.mode (parts_of r) c.args.next) b c.take_step.new.reached) c.if-not-went.false c.in-Ok.ensures in
    (stepped s c.args.mode r c.take_step.new.reached c.args.next g.met.S.Spec.lawful c.requires o).1
