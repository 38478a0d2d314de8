-- The changes of triplets, by name.
use Rattle.iri_resolve.proofs.Common.{Tests, IsSpec, change_of}
use Rattle.iri_resolve.proofs.ChangeKeeps.{TripletChange, capital-keeps, decoding-keeps}
use Rattle.iri_resolve.specs.declared.change.Change.{Change}
use Rattle.iri_resolve.specs.declared.change.Change.TheVariants.{CapitalDigit, Decoded}

pub change-keeps : (s : Tests) (x : Change) → IsSpec s → TripletChange s (change_of s x)
change-keeps s CapitalDigit k = capital-keeps s
change-keeps s Decoded k = decoding-keeps s k
