use Rattle.iri_grammar.specs.WholeFault.{reference_fault}
use Rattle.iri_grammar.proofs.splits.TextParts.{no_fault-of_bytes}
use Rattle.iri_types.proofs.split.SplitView+S+Reference.try_from_bytes.Goals as goal

pub from_utf8_unchecked-s-requires : goal.from_utf8_unchecked-s-requires
from_utf8_unchecked-s-requires g c = (no_fault-of_bytes (reference_fault g.S.Spec.tests) c.args.b.now c.in-Ok.ensures.fault).0
