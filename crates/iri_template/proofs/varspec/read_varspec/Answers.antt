use Rattle.iri_template.proofs.Common.{length, ◌∙◌, ap, arith, is_varname, modifier_fault}
use Rattle.iri_template.proofs.VarSpecWalk.{fine_parts, name_len}
use Rattle.iri_template.proofs.varspec.read_varspec.Goals as goal

pub from_valid-requires : goal.from_valid-requires
from_valid-requires c = ap is_varname c.cut_name.ensures.name ∙ (fine_parts c.args.s.now c.requires.fine).0

pub fine_modifier-requires-clause-fine : goal.fine_modifier-requires-clause-fine
fine_modifier-requires-clause-fine c =
    ap modifier_fault (c.as_bytes.ensures.value ∙ c.cut_name.ensures.modifier) ∙ (fine_parts c.args.s.now c.requires.fine).1

pub fine_modifier-requires-clause-fits : goal.fine_modifier-requires-clause-fits
fine_modifier-requires-clause-fits c =
    omega (arith, c.requires.fits, name_len c.args.s.now, ap length c.as_bytes.ensures.value, ap length c.cut_name.ensures.modifier)
