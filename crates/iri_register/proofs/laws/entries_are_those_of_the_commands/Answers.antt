use Rattle.std.proofs.Common.{refl}
use Rattle.iri_register.proofs.CommandLemmas.{obeyed_next, obeyed_all}
use Rattle.iri_register.proofs.laws.entries_are_those_of_the_commands.Goals as goal

pub returns : goal.returns
returns c = record { none = refl; next = obeyed_next; all = obeyed_all }
