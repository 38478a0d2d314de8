use Rattle.iri_calls.proofs.Common.{ap, arith, length, total, width}
use Rattle.iri_types.specs.SplitText.{split_text}
use Rattle.iri_calls.proofs.SlotLemmas.{total_split}
use Rattle.iri_calls.proofs.parts.split_in.Goals as goal

pub slots_of-requires : goal.slots_of-requires
slots_of-requires g c =
    omega (
      arith,
      ap (width 1) c.scheme.ensures,
      ap (width 2) c.authority.ensures,
      ap length c.path.ensures,
      ap (width 1) c.query.ensures,
      ap (width 1) c.fragment.ensures,
      ap total c.parts-p.ensures.split,
      total_split (split_text c.in-Ok.view),
      ap length c.in-Ok.ensures.text,
    )
