use Rattle.iri_template.proofs.Common.{◌≡◌, length, over, is_name_char}
use Rattle.iri_template.proofs.var_name.is_over_name.Given as goal

-- what is left decides as the whole does
abbrev pub invariant-units : goal.invariant-units
invariant-units l = over is_name_char l.rest ≡ over is_name_char l.bytes

abbrev pub decreases-units : goal.decreases-units
decreases-units l = length l.rest
