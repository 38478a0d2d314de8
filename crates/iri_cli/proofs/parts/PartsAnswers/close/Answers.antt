use Rattle.iri_cli.proofs.Common.{ap, Rules}
use Rattle.iri_cli.proofs.CanonLemmas.{closes_nothing}
use Rattle.iri_cli.proofs.parts.PartsAnswers.close.Goals as goal

pub returns : goal.returns
returns g c = λ text at is. closes_nothing at _ (ap (λ (r : Rules). r.closing at.base at.between) is.rules)
