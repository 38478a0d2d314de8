use Rattle.iri_calls.proofs.BoundLemmas.{short_pair}
use Rattle.iri_calls.proofs.laws.pair_answers_are_short.Goals as goal

pub returns : goal.returns
returns g c = λ mode line. short_pair g.S.Spec.tests mode line g.met.S.Spec.lawful
