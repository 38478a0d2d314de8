use Rattle.std.proofs.Common.{length}
use Rattle.iri_template.specs.Variables.{places_left}
use Rattle.iri_calls.proofs.NameLemmas.{Walked}
use Rattle.iri_calls.proofs.names.write_names.Given as goal

abbrev pub invariant-names : goal.invariant-names
invariant-names l = record {
  walked : Walked (places_left l.variables) (places_left l.left) l.count l.fn.slots l.slots;
}

abbrev pub decreases-names : goal.decreases-names
decreases-names l = length (places_left l.left)
