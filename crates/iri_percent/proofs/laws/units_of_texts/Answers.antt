use Rattle.iri_percent.proofs.units.AtStart.{first_char_split}
use Rattle.iri_percent.proofs.units.Joined.{units-text}
use Rattle.iri_percent.proofs.laws.units_of_texts.Goals as goal

pub returns : goal.returns
returns c = record { whole = λ t. units-text t; character = λ os d. first_char_split os d }
