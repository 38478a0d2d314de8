use Rattle.iri_calls.proofs.BoundLemmas.{short_answer}
use Rattle.iri_calls.proofs.laws.answers_are_short.Goals as goal

pub returns : goal.returns
returns g c = λ mode base line. short_answer g.S.Spec.tests mode base line g.met.S.Spec.lawful
