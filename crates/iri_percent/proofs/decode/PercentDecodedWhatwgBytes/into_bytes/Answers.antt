use Rattle.iri_percent.proofs.Common.{◌++◌, ap, ◌∙◌, flat_map, fragment_bytes, fragments_left}
use Rattle.iri_percent.proofs.coding.Fragments.{fragments-joined, fragments-most}
use Rattle.iri_percent.proofs.decode.PercentDecodedWhatwgBytes.into_bytes.Goals as goal

pub loop-fragment-init : goal.loop-fragment-init
loop-fragment-init c =
    let left = ap fragments_left c.into_iter-fragment-iterator.ensures.into_iter_gives ∙ c.bytes_fragments-fragment-items.ensures.fragments in
    record {
      can = tt;
      ends = tt;
      same =
          ap (λ z. z ++ flat_map fragment_bytes (fragments_left c.into_iter-fragment-iterator.result)) c.in_ok-bytes.ensures.items
          ∙ (ap (flat_map fragment_bytes) left ∙ fragments-joined c.args.self.now.source.now);
      some = rw left (fragments-most c.args.self.now.source.now);
    }
