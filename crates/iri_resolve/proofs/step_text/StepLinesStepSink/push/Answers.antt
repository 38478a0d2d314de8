use Rattle.iri_resolve.proofs.Common.{refl}
use Rattle.iri_resolve.specs.inside.StepSinkLaws.{line_put}
use Rattle.iri_resolve.proofs.step_text.StepLinesStepSink.push.Goals as goal

pub returns : goal.returns
returns g c = line_put c.args.self.now _ c.args.step c.show_step_line.result refl c.show_step_line.ensures
