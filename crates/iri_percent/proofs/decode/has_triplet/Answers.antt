use Rattle.iri_percent.proofs.Common.{ap, ◌∙◌, fragments, list_any, fragments_left, is_octet}
use Rattle.iri_percent.proofs.coding.Fragments.{octets_left}
use Rattle.iri_percent.proofs.decode.has_triplet.Goals as goal

pub loop-fragment-init : goal.loop-fragment-init
loop-fragment-init c = record {
  can = tt;
  ends = tt;
  same =
      ap (λ i. list_any is_octet (fragments_left i)) c.into_iter-fragment-iterator.ensures.into_iter_gives
      ∙ ap (λ t. list_any is_octet (fragments t)) c.new-fragment-items.ensures ∙ octets_left c.args.text.now;
}
