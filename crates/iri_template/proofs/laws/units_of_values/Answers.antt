use Rattle.std.proofs.Common.{sym}
use Rattle.iri_percent.proofs.units.ByCharacters.{units-of_chars}
use Rattle.iri_template.proofs.laws.units_of_values.Goals as goal

pub returns : goal.returns
returns c = λ t u. sym (units-of_chars t u)
