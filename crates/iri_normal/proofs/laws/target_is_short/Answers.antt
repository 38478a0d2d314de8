use Rattle.iri_normal.proofs.normal_forms.Lengths.{length-target}
use Rattle.iri_normal.proofs.laws.target_is_short.Goals as goal

pub returns : goal.returns
returns c = length-target
