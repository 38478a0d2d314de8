use Rattle.iri_template.proofs.Common.{◌≡◌, length, pieces_of, text, placed_type_fault, type_fault}
use Rattle.iri_template.specs.Variables.{placed_left}
use Rattle.iri_template.proofs.type_check.check_types.Given as goal

-- what is left has the fault of all
abbrev pub invariant-varspecs : goal.invariant-varspecs
invariant-varspecs g l = record {
  fault : placed_type_fault (g.C.Context.value_of l.context) (placed_left l.left)
      ≡ type_fault (g.C.Context.value_of l.context) (pieces_of (text l.template));
}

abbrev pub decreases-varspecs : goal.decreases-varspecs
decreases-varspecs g l = length (placed_left l.left)
