use Rattle.iri_resolve.proofs.Common.{Dots, ◌++◌, ◌∙◌, ap, path-whole, shows_exit, shows_then, Path, loses_dots, step_if}
use Rattle.iri_resolve.specs.NormalSteps.{triplet_steps}
use Rattle.iri_resolve.proofs.NormalStepLemmas.{path-pushed}
use Rattle.iri_normal.proofs.ShownTexts.{shows_same}
use Rattle.iri_resolve.proofs.part_steps.push_path.Goals as goal

pub push_component-requires-clause-whole : goal.push_component-requires-clause-whole
push_component-requires-clause-whole g c = path-whole g.S.Spec.tests c.args.path.now g.met.S.Spec.lawful c.requires.path

pub returns-in_err-push_component : goal.returns-in_err-push_component
returns-in_err-push_component g c =
    shows_same (path-pushed g.S.Spec.tests c.args.path.now c.args.authority_stands g.met.S.Spec.lawful c.requires.path c.requires.unguarded)
    (shows_exit g.met.T.StepSink.rules (step_if (loses_dots c.args.path.now c.args.authority_stands) Dots) c.from_residual.ensures.0
    c.in_err-push_component.ensures.steps)

pub returns : goal.returns
returns g c =
    shows_same (ap (λ b. triplet_steps g.S.Spec.tests Path c.args.path.now ++ step_if b Dots) c.loses_dots.ensures
    ∙ path-pushed g.S.Spec.tests c.args.path.now c.args.authority_stands g.met.S.Spec.lawful c.requires.path c.requires.unguarded)
    (shows_then g.met.T.StepSink.rules c.in_ok-push_component.ensures.steps c.push_dots.ensures)
