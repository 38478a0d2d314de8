use Rattle.iri_resolve.proofs.ChangedLemmas.{step-changes}
use Rattle.iri_resolve.proofs.laws.steps_change_something.Goals as goal

pub returns : goal.returns
returns g c = λ m t u x h. step-changes g.S.Spec.tests m t u x h
