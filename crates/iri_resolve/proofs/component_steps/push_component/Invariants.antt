use Rattle.iri_resolve.proofs.Common.{length}
use Rattle.iri_resolve.proofs.ComponentLemmas.{Walked}
use Rattle.iri_resolve.proofs.component_steps.push_component.Given as goal

abbrev pub invariant-prefixes : goal.invariant-prefixes
invariant-prefixes g l = Walked g.T.StepSink.puts g.T.StepSink.stops g.S.Spec.tests l.part l.lower l.start l.text l.at l.rest l.fn.sink l.sink

abbrev pub decreases-prefixes : goal.decreases-prefixes
decreases-prefixes g l = length l.rest
