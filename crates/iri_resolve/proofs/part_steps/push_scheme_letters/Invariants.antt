use Rattle.iri_resolve.proofs.Common.{drop, scheme_steps}
use Rattle.iri_resolve.proofs.PushedSteps.{Going}
use Rattle.iri_resolve.proofs.part_steps.push_scheme_letters.Given as goal

abbrev pub invariant-loop-i : goal.invariant-loop-i
invariant-loop-i g l = Going g.T.StepSink.puts g.T.StepSink.stops l.fn.sink (scheme_steps 0 l.scheme) (scheme_steps l.i (drop l.i l.scheme)) l.sink
