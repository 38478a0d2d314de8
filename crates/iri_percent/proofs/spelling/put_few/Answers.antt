use Rattle.iri_percent.proofs.Common.{sym, subst, arith, IsUtf8}
use Rattle.iri_percent.proofs.coding.SpelledTriplets.{triplets-utf8}
use Rattle.iri_percent.proofs.spelling.put_few.Goals as goal

pub from_utf8_unchecked-requires : goal.from_utf8_unchecked-requires
from_utf8_unchecked-requires g c = subst IsUtf8 (sym c.spell-n.ensures.text)
    (triplets-utf8 c.args.octets.now (λ i. omega (arith, c.type_inv.octets i)))
