use Rattle.iri_calls.proofs.Common.{◌≡◌, length, ap, ◌∙◌, arith, before, width}
use Rattle.iri_grammar.specs.Cut.{after}
use Rattle.iri_grammar.specs.OptionalSlices.{now_of}
use Rattle.iri_grammar.specs.Split.{authority_of, hier_of, path_of}
use Rattle.iri_calls.proofs.SlotLemmas.{total_after}
use Rattle.iri_calls.proofs.fault_part.slots_after.Goals as goal

pub slots_of-requires : goal.slots_of-requires
slots_of-requires c =
    let r = c.args.rest.now in
    let first = c.cut.ensures.before in
    let hier : c.cut-2.result.0.now ≡ hier_of r = c.cut-2.ensures.before ∙ ap (before 63) first in
    omega (
      arith,
      c.requires,
      total_after (now_of c.args.scheme) r,
      ap (width 2) (c.cut_hier.ensures.authority ∙ ap authority_of hier),
      ap length (c.cut_hier.ensures.path ∙ ap path_of hier),
      ap (width 1) (c.cut-2.ensures.after ∙ ap (after 63) first),
      ap (width 1) c.cut.ensures.after,
    )
