use Rattle.std.proofs.Common.{◌+◌, ◌∙◌, refl, arith, length-set}
use Rattle.iri_percent.proofs.coding.SpelledTriplets.{one_spelled}
use Rattle.iri_percent.proofs.spelling.spell.Goals as goal

pub loop-octet-preserved : goal.loop-octet-preserved
loop-octet-preserved c =
    let i = c.loop-octet.invariant in
    record {
      count = omega arith;
      room = length-set _ (c.loop-octet.n + 2) _ ∙ length-set _ (c.loop-octet.n + 1) _ ∙ length-set _ c.loop-octet.n _ ∙ i.room;
      text = one_spelled c.loop-octet.buf c.args.octets.now c.loop-octet.n c.loop-octet.octet-index _ _ _
          (omega (
            arith,
            i.room,
            i.count,
            c.requires,
          )) c.loop-octet-test.true refl c.capital_digit.ensures c.capital_digit-in-loop-octet.ensures i.text;
    }
